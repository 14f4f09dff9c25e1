-- The keys of an object against those of a job, one after the other.
use Rattle.std.proofs.Common.{◌≡◌, ℕ, List, [], ◌∷◌, map, Some, Bor, String, Global, string_bytes, length, take, drop, ◌≤◌, ◌-◌, slice_index_or, refl, ap, ◌∙◌, sym, arith}
use Rattle.std.proofs.lemmas.Simd.{map-map}
use Rattle.std.proofs.Math.Seq.{take-length}
use Rattle.serde_json.specs.Find.{as_object}
use Rattle.serde_json.specs.View.{members_view, view}
use Rattle.serde_json.specs.declared.value.Value.{Value}
use Rattle.mds_requests.specs.JobFields.{keys_of, member_keys}
use Rattle.mds_requests.specs.JobObjects.{job_keys}

-- the object has the keys of a job exactly where the keys left are those that are left of a job
pub record StillSame (value : Value) (keys : List (String Global)) (left : List (Bor (List ℕ))) : Type 0 where
  pub forth : keys_of (view value) ≡ Some job_keys → map string_bytes keys ≡ map (λ key. key.now) left
  pub back : map string_bytes keys ≡ map (λ key. key.now) left → keys_of (view value) ≡ Some job_keys

-- the keys of a map's members
pub keys_of_members : (entries : List (String Global × Value)) → member_keys (members_view entries) ≡ map (λ entry. string_bytes entry.0) entries
keys_of_members [] = refl
keys_of_members (entry ∷ rest) = ap (λ keys. string_bytes entry.0 ∷ keys) (keys_of_members rest)

-- before the first key
pub same_start : (value : Value) (entries : List (String Global × Value)) (keys : List (String Global)) (left : List (Bor (List ℕ))) → Some (members_view entries) ≡ as_object (view value)
    → keys ≡ map (λ entry. entry.0) entries → map (λ key. key.now) left ≡ job_keys → StillSame value keys left
same_start value entries keys left object all whole =
    let known : keys_of (view value) ≡ Some (map (λ entry. string_bytes entry.0) entries) = rw (← object) (ap Some (keys_of_members entries)) in
    let bytes : map string_bytes keys ≡ map (λ entry. string_bytes entry.0) entries = rw all (map-map string_bytes (λ entry. entry.0) entries) in record {
      forth = λ same. let e : map (λ entry. string_bytes entry.0) entries ≡ job_keys = cc in bytes ∙ e ∙ sym whole;
      back = λ same. known ∙ ap Some (sym bytes ∙ same ∙ whole);
    }

-- behind a key that is next of a job's
same_step : (value : Value) (key : String Global) (first : Bor (List ℕ)) (keys : List (String Global)) (left : List (Bor (List ℕ))) → string_bytes key ≡ first.now
    → StillSame value (key ∷ keys) (first ∷ left) → StillSame value keys left
same_step value key first keys left same so_far = record {
  forth = λ all. let both = so_far.forth all in cc;
  back = λ rest. so_far.back (rw (same, rest) refl);
}

pub same_next : (value : Value) (key : String Global) (nothing : Bor (List ℕ)) (keys later : List (String Global)) (left : List (Bor (List ℕ))) → keys ≡ key ∷ later → 1 ≤ length left
    → string_bytes key ≡ (slice_index_or left 0 nothing).now → StillSame value keys left → StillSame value later (drop 1 left)
same_next value key nothing keys later [] taken some same so_far = absurd (omega arith)
same_next value key nothing keys later (first ∷ left) taken some same so_far = same_step value key first later left same (rw taken at so_far)

-- what stands behind the first of a list
pub behind_first : {A : Type 0} (xs : List A) → take (length xs - 1) (drop 1 xs) ≡ drop 1 xs
behind_first [] = refl
behind_first (x ∷ xs) = let n : length (x ∷ xs) - 1 ≡ length xs = omega arith in rw n (take-length xs)
