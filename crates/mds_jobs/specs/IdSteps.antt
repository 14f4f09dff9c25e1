-- How an id is stored in memory: its text, followed by zeros.
use Rattle.std.specs.Prelude.{◌≡◌, ◌-◌, ◌≤◌, ℕ, IsTrue, List, ◌++◌, length, take, drop, replicate}
use Rattle.std.proofs.Common.{sym, ap, ◌∙◌, arith, length-take-le, take-append-drop}
use Rattle.mds_jobs.specs.Ids.{is_job_id}

-- a text followed by zeros, 36 bytes in all
abbrev pub padded : List ℕ → List ℕ
padded text = text ++ replicate (36 - length text) 0

-- an id, followed by zeros
pub record IsPadded (bytes : List ℕ) (n : ℕ) : Type 0 where
  pub size : length bytes ≡ 36
  pub short : n ≤ 36
  pub id : IsTrue (is_job_id (take n bytes))
  pub zeros : drop n bytes ≡ replicate (36 - n) 0

-- the text at the start has its length
pub length_back : (bytes : List ℕ) (n : ℕ) → IsPadded bytes n → length (take n bytes) ≡ n
length_back bytes n h = length-take-le n bytes (omega (arith, h.size, h.short))

-- and followed by zeros it is the whole
pub padded_back : (bytes : List ℕ) (n : ℕ) → IsPadded bytes n → padded (take n bytes) ≡ bytes
padded_back bytes n h =
    ap (λ m. take n bytes ++ replicate (36 - m) 0) (length_back bytes n h)
    ∙ ap (λ zeros. take n bytes ++ zeros) (sym h.zeros) ∙ take-append-drop n bytes
