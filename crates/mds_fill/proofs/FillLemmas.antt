-- What a job fills in, and what stops it.
use Rattle.std.proofs.Common.{◌≡◌, ◌+◌, ℕ, ℤ, List, [], ◌∷◌, ◌++◌, length, get_or, Some, refl, sym, ap, ◌∙◌, subst, inl, inr, arith}
use Rattle.std.proofs.lemmas.Bool.{cases_lt}
use Rattle.std.proofs.lemmas.List.{get_or_append_left, length-append}
use Rattle.std.proofs.lemmas.Option.{slice_get-get_or, get_or_from_slice_get, slice_get_within}
use Rattle.std.proofs.Math.Seq.{get_or-append_seam}
use Rattle.mds_marks.specs.Reading.{ReadingValue}
use Rattle.mds_world.specs.Facts.{JobContent}
use Rattle.mds_world.specs.World.{World}
use Rattle.mds_keeper.specs.declared.day_merge.Stop.{Stop}
use Rattle.mds_keeper.specs.declared.refusal.Refusal.{Refusal}
use Rattle.mds_keeper.specs.declared.refusal.RefusalCode.{RefusalCode}
use Rattle.mds_fill.specs.Fills.{IsFillFault, IsFillRefusal, IsFilled, IsSubstitute, LacksAnchor, LacksLikeDay}
use Rattle.mds_fill.specs.FillSteps.{AreFilled, IsSource}
use Rattle.mds_fill.specs.declared.sources.Source.{Source}
use Rattle.mds_fill.specs.declared.sources.Source.TheVariants.{LikeDay, LikeDays, Line, Zeros}

-- a refusal of a rule at an interval
pub refusal_is : (w : World) (job : JobContent) (r : Refusal) (code : RefusalCode) (i : ℕ)
    → r ≡ record { code = code; line = 0; field = 0; interval = i } → IsFillFault w job code i → IsFillRefusal w job r
refusal_is w job r code i e fault =
    subst (IsFillRefusal w job) (sym e) (record { line = refl; field = refl; fault = fault })

-- a job with a source lacks no value beside its targets
pub has_anchor : (w : World) (job : JobContent) (source : Source) → IsSource w job source → LacksAnchor w job → ⊥
has_anchor w job (LikeDay book) s lack = let a = s.0 in let b = lack.0 in omega arith
has_anchor w job LikeDays s lack = let b = lack.0 in omega arith
has_anchor w job (Line before after) s lack = elim lack.1 [ inl none ↦ none before s.1 | inr none ↦ none after s.2 ]
has_anchor w job Zeros s lack = let b = lack.0 in omega arith

-- and no like day, unless it is one for the mean
pub lacks_for_mean : (w : World) (job : JobContent) (source : Source) → IsSource w job source → LacksLikeDay w job
    → job.method ≡ 15
lacks_for_mean w job source s (inr lack) = lack.0
lacks_for_mean w job (LikeDay book) s (inl lack) =
    let near = s.1.1 in
    absurd (lack.1 near.place s.1.0 near.like near.all)
lacks_for_mean w job LikeDays s (inl lack) = s
lacks_for_mean w job (Line before after) s (inl lack) = let a = s.0 in let b = lack.0 in absurd (omega arith)
lacks_for_mean w job Zeros s (inl lack) = let b = lack.0 in absurd (omega arith)

-- one reading more
pub filled_more : (w : World) (job : JobContent) (i n m : ℕ) (xs ys : List ReadingValue) (r : ReadingValue)
    → i ≡ job.first + n → m ≡ n + 1 → ys ≡ xs ++ r ∷ [] → AreFilled w job n xs → IsSubstitute w job i r
    → AreFilled w job m ys
filled_more w job i n m xs ys r at next e filled is =
    let more : length ys ≡ m = ap length e ∙ length-append xs (r ∷ []) ∙ omega (arith, filled.many, next) in
    record {
      many = more;
      each = λ k q h.
          let value = get_or_from_slice_get ys k q q h in
          let within = slice_get_within ys k q h in
          elim (cases_lt k (length xs)) [
            | inl a ↦
                filled.each k q (slice_get-get_or xs k q a
                ∙ ap (λ z. Some z) (sym (get_or_append_left xs (r ∷ []) q k a) ∙ sym (ap (λ l. get_or l k q) e) ∙ value))
            | inr b ↦
                let last : k ≡ length xs = omega (arith, filled.many) in
                let here : i ≡ job.first + k = omega (arith, filled.many) in
                let same : r ≡ q = sym (get_or-append_seam xs r [] q) ∙ sym (ap (λ n. get_or (xs ++ r ∷ []) n q) last)
                ∙ sym (ap (λ l. get_or l k q) e) ∙ value in
                subst (λ j. IsSubstitute w job j q) here (subst (IsSubstitute w job i) same is)
          ];
    }

-- the reading of a value that fills
pub substitute_is : (w : World) (job : JobContent) (i : ℕ) (r : ReadingValue) (v : ℤ)
    → r.mark ≡ record {
      quality = record { flag = job.flag; method = job.method };
      reason = record { code = job.code; text = job.text };
    }
    → r.value ≡ Some v → IsFilled w job i v → IsSubstitute w job i r
substitute_is w job i r v mark same filled = record { mark = mark; value = v; same = same; filled = filled }
