-- What the tests of a delivery tell: that it is orderly.
use Rattle.std.proofs.Common.{◌≡◌, ◌↔◌, ℕ, suc, ◌-◌, ◌<◌, Bool, true, false, ◌&&◌, eqb, List, [], ◌∷◌, ◌++◌, length, get_or, Option, Some, None, IsTrue, refl, sym, ◌∙◌, ap, arith}
use Rattle.std.specs.List.{All, AllPairs}
use Rattle.std.proofs.lemmas.Bool.{and_from, and_parts, eq-eqb, eqb-true, lt-ltb, ltb-true}
use Rattle.std.proofs.lemmas.List.Elements.{All-cons, All-head, All-nil, All-tail}
use Rattle.std.proofs.lemmas.List.Kept.{AllPairs-cons}
use Rattle.mds_calendar.specs.Length.{count_of}
use Rattle.mds_statements.specs.Orderly.{AreOrderly, IsWhole, days_of_blocks}
use Rattle.mds_statements.specs.OrderlySteps.{blocks_follow, day_follows, days_follow, is_after, last_line}
use Rattle.mds_statements.specs.declared.blocks.Block.{Block}
use Rattle.mds_statements.specs.declared.blocks.DeliveredDay.{DeliveredDay}

-- the line of the last of some days
last_line_of : (before : Option ℕ) (day : DeliveredDay) (days : List DeliveredDay) (d : DeliveredDay)
    → last_line before (day ∷ days) ≡ Some (get_or (day ∷ days) (length days) d).line
last_line_of before day [] d = refl
last_line_of before day (next ∷ days) d = last_line_of (Some day.line) next days d

pub last_line_at : (before : Option ℕ) (days : List DeliveredDay) (day : DeliveredDay) → 0 < length days
    → day ≡ get_or days (length days - 1) day → Some day.line ≡ last_line before days
last_line_at before [] day some is = absurd (omega arith)
last_line_at before (first ∷ days) day some is =
    let end : length (first ∷ days) - 1 ≡ length days = omega arith in
    ap (λ (d : DeliveredDay). Some d.line) (is ∙ ap (λ n. get_or (first ∷ days) n day) end) ∙ sym (last_line_of before first days day)

-- ---- ascending lines

-- days stand on ascending lines after a last one
ascends : Option ℕ → List DeliveredDay → Bool
ascends last [] = true
ascends last (day ∷ days) = is_after last day.line && ascends (Some day.line) days

ascends_append : (last : Option ℕ) (days more : List DeliveredDay)
    → ascends last (days ++ more) ≡ (ascends last days && ascends (last_line last days) more)
unfolding ascends
ascends_append last [] more = refl
ascends_append last (day ∷ days) more =
    ap (λ b. is_after last day.line && b) (ascends_append (Some day.line) days more)
    ∙ joined (is_after last day.line) (ascends (Some day.line) days) (ascends (last_line (Some day.line) days) more) where
      joined : (a b c : Bool) → (a && (b && c)) ≡ ((a && b) && c)
      joined true b c = refl
      joined false b c = refl

after_later : (last : Option ℕ) (line later : ℕ) → is_after last line ≡ true → line < later → is_after last later ≡ true
after_later None line later e lt = refl
after_later (Some last) line later e lt = let before = ltb-true last line e in lt-ltb last later (omega arith)

ascending : (last : Option ℕ) (days : List DeliveredDay) → ascends last days ≡ true
    → All (λ day. is_after last day.line ≡ true) days × AllPairs (λ a b. a.line < b.line) days
unfolding ascends
ascending last [] e = (All-nil (λ day. is_after last day.line ≡ true), λ i j d lt size. absurd (omega arith))
ascending last (day ∷ days) e =
    let parts = and_parts (is_after last day.line) (ascends (Some day.line) days) e in
    let later = ascending (Some day.line) days parts.1 in (
      All-cons (λ day. is_after last day.line ≡ true) day days parts.0
          (λ k d within. after_later last day.line _ parts.0 (ltb-true day.line _ (later.0 k d within))),
      AllPairs-cons (λ a b. a.line < b.line) day days (λ k d within. ltb-true day.line _ (later.0 k d within)) later.1,
    )

ascends_from : (last : Option ℕ) (days : List DeliveredDay) → All (λ day. is_after last day.line ≡ true) days
    → AllPairs (λ a b. a.line < b.line) days → ascends last days ≡ true
unfolding ascends
ascends_from last [] low pairs = refl
ascends_from last (day ∷ days) low pairs =
    and_from (is_after last day.line) (ascends (Some day.line) days) (All-head (λ day. is_after last day.line ≡ true) day days low)
    (ascends_from (Some day.line) days (λ k d within. lt-ltb day.line _ (pairs 0 (suc k) d (omega arith) (omega arith)))
    (λ i j d lt within. pairs (suc i) (suc j) d (omega arith) (omega arith)))

-- ---- the tests of the days of a block, and of all blocks

days_parts : (count : ℕ) (last : Option ℕ) (days : List DeliveredDay) → days_follow count last days ≡ true
    → (ascends last days ≡ true) × All (λ day. length day.readings ≡ count) days
unfolding ascends
days_parts count last [] e = (refl, All-nil (λ day. length day.readings ≡ count))
days_parts count last (day ∷ days) e =
    let parts = and_parts (day_follows count last day) (days_follow count (Some day.line) days) e in
    let here = and_parts (is_after last day.line) (eqb (length day.readings) count) parts.0 in
    let later = days_parts count (Some day.line) days parts.1 in (
      and_from (is_after last day.line) (ascends (Some day.line) days) here.0 later.0,
      All-cons (λ day. length day.readings ≡ count) day days (eqb-true (length day.readings) count here.1) later.1,
    )

days_from : (count : ℕ) (last : Option ℕ) (days : List DeliveredDay) → ascends last days ≡ true
    → All (λ day. length day.readings ≡ count) days → days_follow count last days ≡ true
unfolding ascends
days_from count last [] e whole = refl
days_from count last (day ∷ days) e whole =
    let parts = and_parts (is_after last day.line) (ascends (Some day.line) days) e in
    and_from (day_follows count last day) (days_follow count (Some day.line) days)
    (and_from (is_after last day.line) (eqb (length day.readings) count) parts.0
    (eq-eqb (length day.readings) count (All-head (λ day. length day.readings ≡ count) day days whole)))
    (days_from count (Some day.line) days parts.1 (All-tail (λ day. length day.readings ≡ count) day days whole))

blocks_parts : (last : Option ℕ) (blocks : List Block) → blocks_follow last blocks ≡ true
    → (ascends last (days_of_blocks blocks) ≡ true) × All IsWhole blocks
unfolding ascends
blocks_parts last [] e = (refl, All-nil IsWhole)
blocks_parts last (block ∷ blocks) e =
    let days = block.days.items in
    let parts = and_parts (days_follow (count_of block.length) last days) (blocks_follow (last_line last days) blocks) e in
    let here = days_parts (count_of block.length) last days parts.0 in
    let later = blocks_parts (last_line last days) blocks parts.1 in (
      ascends_append last days (days_of_blocks blocks)
          ∙ and_from (ascends last days) (ascends (last_line last days) (days_of_blocks blocks)) here.0 later.0,
      All-cons IsWhole block blocks here.1 later.1,
    )

blocks_from : (last : Option ℕ) (blocks : List Block) → ascends last (days_of_blocks blocks) ≡ true → All IsWhole blocks
    → blocks_follow last blocks ≡ true
unfolding ascends
blocks_from last [] e whole = refl
blocks_from last (block ∷ blocks) e whole =
    let days = block.days.items in
    let parts = and_parts (ascends last days) (ascends (last_line last days) (days_of_blocks blocks))
    (sym (ascends_append last days (days_of_blocks blocks)) ∙ e) in
    and_from (days_follow (count_of block.length) last days) (blocks_follow (last_line last days) blocks)
    (days_from (count_of block.length) last days parts.0 (All-head IsWhole block blocks whole))
    (blocks_from (last_line last days) blocks parts.1 (All-tail IsWhole block blocks whole))

-- the tests pass just where blocks are orderly
pub orderly_tested : (blocks : List Block) (passed : Bool) → blocks_follow None blocks ≡ passed → IsTrue passed ↔ AreOrderly blocks
orderly_tested blocks passed same = (
  λ e. let parts = blocks_parts None blocks (same ∙ e) in
      record { whole = parts.1; lines = (ascending None (days_of_blocks blocks) parts.0).1 },
  λ h. sym same ∙ blocks_from None blocks (ascends_from None (days_of_blocks blocks) (λ k d within. refl) h.lines) h.whole,
)
