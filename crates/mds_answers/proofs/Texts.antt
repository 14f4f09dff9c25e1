-- Texts that may be empty.
use Rattle.std.proofs.Common.{◌≡◌, ℕ, ◌==◌, false, List, [], ◌∷◌, length, Option, Some, None, option_map, refl, ap, arith}
use Rattle.std.proofs.lemmas.Bool.Decides.{nat_tests}
use Rattle.mds_calendar.specs.Calendar.{day_of, moment_of}
use Rattle.mds_terms.specs.Parts.{optional}

-- a text that reads as something is there
present : (read : List ℕ → Option ℕ) (text : List ℕ) (value : ℕ) → read [] ≡ None → read text ≡ Some value
    → optional read text ≡ Some (Some value)
present read [] value none is = absurd (cc)
present read (x ∷ text) value none is =
    let some : (length (x ∷ text) == 0) ≡ false = grind (arith, nat_tests) in
    rw some (ap (option_map Some) is)

pub present_day : (text : List ℕ) (day : ℕ) → day_of text ≡ Some day → optional day_of text ≡ Some (Some day)
unfolding day_of
present_day text day is = present day_of text day refl is

pub present_moment : (text : List ℕ) (moment : ℕ) → moment_of text ≡ Some moment → optional moment_of text ≡ Some (Some moment)
unfolding moment_of day_of
present_moment text moment is = present moment_of text moment refl is
