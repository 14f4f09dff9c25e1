-- Lists that are taken so many at a time.
use Rattle.std.proofs.Common.{◌≡◌, ◌<◌, ◌≤◌, ◌/◌, ◌+◌, ◌*◌, ◌-◌, ◌++◌, ℕ, zero, suc, List, [], ◌∷◌, drop, length, take, refl, sym, ap, ◌∙◌, arith}
use Rattle.std.proofs.lemmas.List.{append_assoc, length-drop, length-take-le, drop-drop, take_all, take-append-drop}
use Rattle.std.proofs.Math.Seq.{take-add}
use Rattle.std.specs.Simd.{first_chunks}
use Rattle.sqlite_value.specs.Order.{Row}
use Rattle.mds_tables.specs.Parts.{Part, in_turn, singly, statements_of, together}
use Rattle.mds_tables.proofs.Batches.{statements_both}

-- the parts up to a place, and those behind it
chunks_rest : {X : Type 0} (n k j : ℕ) (xs : List X) → first_chunks n (k + j) xs ≡ first_chunks n k xs ++ first_chunks n j (drop (k * n) xs)
chunks_rest n zero j xs = let none : zero * n ≡ 0 = omega arith in let same : zero + j ≡ j = omega arith in rw (none, same) refl
chunks_rest n (suc k) j xs =
    let size : suc k * n ≡ n + k * n = omega arith in
    let behind : drop (k * n) (drop n xs) ≡ drop (suc k * n) xs = rw size (drop-drop (k * n) n xs) in
    let count : suc k + j ≡ suc (k + j) = omega arith in
    rw count (ap (λ l. take n xs ∷ l) (rw behind at (chunks_rest n k j (drop n xs))))

chunks_more : {X : Type 0} (n k : ℕ) (xs : List X) → first_chunks n (k + 1) xs ≡ first_chunks n k xs ++ take n (drop (k * n) xs) ∷ []
chunks_more n k xs = chunks_rest n k 1 xs

-- what is left behind a place
behind_all : {X : Type 0} (n : ℕ) (xs : List X) → take (length xs - n) (drop n xs) ≡ drop n xs
behind_all n xs = let size = length-drop n xs in take_all (length xs - n) (drop n xs) (omega (arith, size))

module _ {A : Type 0} (part : Part A) (items : List A) (k : ℕ) where
  abbrev pub next_turn : List A
  next_turn = take together (drop (k * together) items)

  -- those up to a place, and the next
  pub taken_more : take (k * together) items ++ next_turn ≡ take ((k + 1) * together) items
  taken_more =
      let size : k * together + together ≡ (k + 1) * together = omega arith in
      sym (take-add (k * together) together items) ∙ ap (λ n. take n items) size

  pub stated_more : statements_of part (first_chunks together k items) ++ statements_of part (next_turn ∷ [])
      ≡ statements_of part (first_chunks together (k + 1) items)
  stated_more = sym (ap (statements_of part) (chunks_more together k items) ∙ statements_both part (first_chunks together k items) (next_turn ∷ []))

  -- the statements that put those behind it
  abbrev pub later : List (ℕ × List Row)
  later =
      statements_of part (first_chunks together (length items / together - (k + 1)) (drop ((k + 1) * together) items))
      ++ singly part (drop (length items / together * together) items)

  pub every_turn : k < length items / together
      → statements_of part (first_chunks together k items) ++ (statements_of part (next_turn ∷ []) ++ later) ≡ in_turn part items
  every_turn low =
      let front = statements_of part (first_chunks together k items) in
      let here = statements_of part (next_turn ∷ []) in
      let alone = singly part (drop (length items / together * together) items) in
      let behind = first_chunks together (length items / together - (k + 1)) (drop ((k + 1) * together) items) in
      let all : (k + 1) + (length items / together - (k + 1)) ≡ length items / together = omega (arith, low) in
      sym (append_assoc front here later)
      ∙ ap (λ puts. puts ++ later) stated_more
      ∙ sym (append_assoc (statements_of part (first_chunks together (k + 1) items)) (statements_of part behind) alone)
      ∙ ap (λ puts. puts ++ alone) (sym (statements_both part (first_chunks together (k + 1) items) behind)
      ∙ ap (statements_of part) (sym (chunks_rest together (k + 1) (length items / together - (k + 1)) items) ∙ ap (λ n. first_chunks together n items) all))

  pub next_size : k < length items / together → length next_turn ≡ together
  next_size low =
      let behind : length (drop (k * together) items) ≡ length items - k * together = length-drop (k * together) items in
      let there : together ≤ length (drop (k * together) items) = omega (arith, low, behind) in
      length-take-le together (drop (k * together) items) there

  -- at the end all are taken
  abbrev pub left_over : List A
  left_over = take (length items - length items / together * together) (drop (length items / together * together) items)

  pub whole_turn : k ≡ length items / together → take (k * together) items ++ left_over ≡ items
  whole_turn last =
      rw (last, behind_all (length items / together * together) items) (take-append-drop (length items / together * together) items)

  pub ends_turn : k ≡ length items / together → statements_of part (first_chunks together k items) ++ singly part left_over ≡ in_turn part items
  ends_turn last = rw (last, behind_all (length items / together * together) items) refl
