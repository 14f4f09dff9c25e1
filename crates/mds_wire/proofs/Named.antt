-- The fields of a name.
use Rattle.std.proofs.Common.{◌≡◌, ◌↔◌, ℕ, Bool, true, false, ◌<◌, ◌≤◌, ◌+◌, suc, List, [], ◌∷◌, ◌++◌, length, map, drop, get_or, refl, sym, ap, ◌∙◌, subst, arith, length-append}
use Rattle.std.specs.Prelude.{if◌then◌else◌}
use Rattle.std.specs.Str.{str_eq_ignore_ascii_case, str_to_ascii_lowercase}
use Rattle.std.proofs.lemmas.Slice.Eq.{bytes_eq-Decides}
use Rattle.std.proofs.lemmas.Bool.Decides.{same_from_decides}
use Rattle.std.proofs.lemmas.List.{append-nil}
use Rattle.std.proofs.Math.Seq.{drop-cons}
use Rattle.httparse.specs.Spans.{span_bytes, header_bytes}
use Rattle.httparse.specs.declared.spans.HeaderSpan.{HeaderSpan}
use Rattle.mds_wire.specs.declared.judge.Values.{Values}
use Rattle.mds_wire.specs.declared.judge.Values.TheVariants as values
use Rattle.mds_wire.specs.Judging.{values_in}
use Rattle.mds_wire.specs.JudgeSteps.{IsValues}

-- some fields were looked at, and these values found
pub record Seen (bytes name : List ℕ) (fields : List HeaderSpan) (at : ℕ) (found : Values) : Type 0 where
  pub seen : List (List ℕ)
  pub kept : IsValues seen found
  pub all : values_in name (map (header_bytes bytes) fields) ≡ seen ++ values_in name (map (header_bytes bytes) (drop at fields))

-- the next field
pub values_at : (bytes name : List ℕ) (fields : List HeaderSpan) (i : ℕ) (d : HeaderSpan) → i < length fields
    → values_in name (map (header_bytes bytes) (drop i fields))
    ≡ (if str_eq_ignore_ascii_case (span_bytes bytes (get_or fields i d).name) name
    then span_bytes bytes (get_or fields i d).value ∷ values_in name (map (header_bytes bytes) (drop (i + 1) fields))
    else values_in name (map (header_bytes bytes) (drop (i + 1) fields)))
values_at bytes name fields i d within =
    let e : suc i ≡ i + 1 = omega arith in
    ap (λ fs. values_in name (map (header_bytes bytes) fs)) (drop-cons fields i d within ∙ ap (λ k. get_or fields i d ∷ drop k fields) e)

-- a comparison is that of the definition
pub named_is : (a b : List ℕ) (t : Bool) → ((t ≡ true) ↔ (str_to_ascii_lowercase a ≡ str_to_ascii_lowercase b)) → t ≡ str_eq_ignore_ascii_case a b
named_is a b t h = same_from_decides t (str_eq_ignore_ascii_case a b) h (bytes_eq-Decides (str_to_ascii_lowercase a) (str_to_ascii_lowercase b))

-- it has another name
pub seen_other : (bytes name : List ℕ) (fields : List HeaderSpan) (i : ℕ) (d : HeaderSpan) (found : Values) → i < length fields
    → str_eq_ignore_ascii_case (span_bytes bytes (get_or fields i d).name) name ≡ false
    → Seen bytes name fields i found → Seen bytes name fields (i + 1) found
seen_other bytes name fields i d found within e s =
    let step = rw e at (values_at bytes name fields i d within) in
    record { seen = s.seen; kept = s.kept; all = s.all ∙ ap (λ vs. s.seen ++ vs) step }

-- it has this name
pub seen_first : (bytes name : List ℕ) (fields : List HeaderSpan) (i : ℕ) (d : HeaderSpan) (found next : Values) → i < length fields
    → str_eq_ignore_ascii_case (span_bytes bytes (get_or fields i d).name) name ≡ true
    → Seen bytes name fields i found → found ≡ values.None → IsValues (span_bytes bytes (get_or fields i d).value ∷ []) next
    → Seen bytes name fields (i + 1) next
seen_first bytes name fields i d found next within e s none h =
    let step = rw e at (values_at bytes name fields i d within) in
    let empty : s.seen ≡ [] = subst (λ (v : Values). IsValues s.seen v) none s.kept in
    record { seen = span_bytes bytes (get_or fields i d).value ∷ []; kept = h; all = s.all ∙ ap (λ vs. s.seen ++ vs) step ∙ ap (λ xs. xs ++ span_bytes bytes (get_or fields i d).value ∷ values_in name (map (header_bytes bytes) (drop (i + 1) fields))) empty }

-- and is not the first
at_least_one : (found : Values) (seen : List (List ℕ)) → IsValues seen found → (found ≡ values.None → ⊥) → 1 ≤ length seen
at_least_one values.None seen h n = absurd (n refl)
at_least_one (values.One v) seen h n = omega (arith, ap length h)
at_least_one values.Several seen h n = omega (arith, h)

pub seen_several : (bytes name : List ℕ) (fields : List HeaderSpan) (i : ℕ) (d : HeaderSpan) (found : Values) → i < length fields
    → str_eq_ignore_ascii_case (span_bytes bytes (get_or fields i d).name) name ≡ true
    → Seen bytes name fields i found → (found ≡ values.None → ⊥) → 1 < length (values_in name (map (header_bytes bytes) fields))
seen_several bytes name fields i d found within e s other =
    let step = rw e at (values_at bytes name fields i d within) in
    let more = values_in name (map (header_bytes bytes) (drop (i + 1) fields)) in
    let all = ap length (s.all ∙ ap (λ vs. s.seen ++ vs) step) in
    omega (arith, all, length-append s.seen (span_bytes bytes (get_or fields i d).value ∷ more), at_least_one found s.seen s.kept other)

-- all were looked at
pub seen_all : (bytes name : List ℕ) (fields : List HeaderSpan) (i : ℕ) (found : Values) → drop i fields ≡ [] → Seen bytes name fields i found
    → IsValues (values_in name (map (header_bytes bytes) fields)) found
seen_all bytes name fields i found e s =
    subst (λ (vs : List (List ℕ)). IsValues vs found) (sym (s.all ∙ ap (λ fs. s.seen ++ values_in name (map (header_bytes bytes) fs)) e ∙ append-nil s.seen)) s.kept
