use Rattle.std.proofs.Common.{Bor, ◌≡◌, ℕ, ◌+◌, ◌<◌, ◌≤◌, List, [], ◌∷◌, ◌++◌, length, map, if◌then◌else◌, is_ok, Result, Ok, Err, OnOk, refl, sym, ap, subst, ◌∙◌, append_assoc, arith}
use Rattle.std.proofs.lemmas.List.{append-nil, length-append}
use Rattle.std.proofs.lemmas.Result.{err_from_is_err_and, on_err_weaker, on_ok_weaker}
use Rattle.mds_lines.specs.Lines.{carriage_return, comma, line_feed}
use Rattle.mds_quantity.specs.Append.{Appends}
use Rattle.mds_terms.specs.Parts.{joined}
use Rattle.mds_export.specs.Rows.{line_of}
use Rattle.mds_export.specs.RowSteps.{closed}
use Rattle.mds_export.proofs.Begun.{begun_after, begun_kept}
use Rattle.mds_quantity.proofs.Front.{on_err_from}
use Rattle.mds_marks.proofs.Pieces.{on_err_kept}
use Rattle.mds_export.proofs.Fronts.{first_text, front_first, front_last, front_rest, one_text, some_behind}
use Rattle.mds_export.proofs.line.+write_line.Goals as goal

-- what follows from the bytes that were appended holds where all went well
on_ok_done : {T E P : Type 0} (r : Result T E) (new done kept : List ℕ) → new ≡ (if is_ok r then done else kept) → (new ≡ done → P) → OnOk r P
on_ok_done (Ok x) new done kept e h = h e
on_ok_done (Err x) new done kept e h = tt

no_text : (texts : List (Bor (List ℕ))) → length texts < 1 → map (λ text. text.now) texts ≡ []
no_text [] few = refl
no_text (x ∷ texts) few = absurd (omega arith)

-- the line of one field
line_one : (old mid new last : List ℕ) (all : List (List ℕ)) → all ≡ last ∷ [] → mid ≡ old ++ last
    → new ≡ mid ++ carriage_return ∷ line_feed ∷ [] → Appends old new (line_of all)
line_one old mid new last all is e f =
    let end = carriage_return ∷ line_feed ∷ [] in
    subst (λ (t : List (List ℕ)). Appends old new (line_of t)) (sym is) (f ∙ ap (λ t. t ++ end) e ∙ append_assoc old last end)

size_one : (last : List ℕ) (all : List (List ℕ)) → all ≡ last ∷ [] → length (line_of all) ≡ length last + 2
size_one last all is = ap (λ t. length (line_of t)) is ∙ length-append last (carriage_return ∷ line_feed ∷ [])

full_one : (room long : ℕ) (last : List ℕ) (all : List (List ℕ)) → all ≡ last ∷ [] → room < long + length last → room < long + length (line_of all)
full_one room long last all is full = omega (arith, full, size_one last all is)

full_last : (room more long longer : ℕ) (last : List ℕ) (all : List (List ℕ)) → all ≡ last ∷ [] → longer ≡ long + length last → room ≤ more
    → more < longer + 2 → room < long + length (line_of all)
full_last room more long longer last all is len grows full = omega (arith, full, len, grows, size_one last all is)

-- the line of a field and of those behind it
line_more : (first : List ℕ) (rest : List (List ℕ)) → 0 < length rest → closed first ++ line_of rest ≡ line_of (first ∷ rest)
line_more first [] some = absurd (omega arith)
line_more first (next ∷ rest) some =
    let ends = carriage_return ∷ line_feed ∷ [] in
    append_assoc first (comma ∷ []) (joined (next ∷ rest) ++ ends) ∙ sym (append_assoc first (comma ∷ joined (next ∷ rest)) ends)

line_rest : (old mid new first : List ℕ) (rest all : List (List ℕ)) → all ≡ first ∷ rest → 0 < length rest → mid ≡ old ++ closed first
    → Appends mid new (line_of rest) → Appends old new (line_of all)
line_rest old mid new first rest all is some e f =
    subst (λ (t : List (List ℕ)). Appends old new (line_of t)) (sym is) (subst (Appends old new) (line_more first rest some)
    (f ∙ ap (λ t. t ++ line_of rest) e ∙ append_assoc old (closed first) (line_of rest)))

size_more : (first : List ℕ) (rest all : List (List ℕ)) → all ≡ first ∷ rest → 0 < length rest
    → length (line_of all) ≡ length (closed first) + length (line_of rest)
size_more first rest all is some =
    ap (λ t. length (line_of t)) is ∙ ap length (sym (line_more first rest some)) ∙ length-append (closed first) (line_of rest)

full_first : (room long : ℕ) (first : List ℕ) (rest all : List (List ℕ)) → all ≡ first ∷ rest → 0 < length rest
    → room < long + length (closed first) → room < long + length (line_of all)
full_first room long first rest all is some full =
    let size = size_more first rest all is some in
    omega (arith, full, size)

full_rest : (room more long longer : ℕ) (first : List ℕ) (rest all : List (List ℕ)) → all ≡ first ∷ rest → 0 < length rest
    → longer ≡ long + length (closed first) → room ≤ more → more < longer + length (line_of rest) → room < long + length (line_of all)
full_rest room more long longer first rest all is some len grows full =
    let size = size_more first rest all is some in
    omega (arith, full, len, grows, size)

pub returns-in_err-write_field-in-len1-up-clause-part : goal.returns-in_err-write_field-in-len1-up-clause-part
returns-in_err-write_field-in-len1-up-clause-part t c =
    on_err_from c.from_residual-in_err-write_field-in-len1-up.result _
    (front_first _ _ _ _ _ (first_text c.args.texts.now _ (omega (arith, c.in-len1-up.len_at_least)))
    (some_behind c.args.texts.now (omega (arith, c.in-len1-up.len_at_least))) c.in_err-write_field-in-len1-up.ensures.part)

pub returns-in_ok-extend_from_slice-in-len1-clause-part : goal.returns-in_ok-extend_from_slice-in-len1-clause-part
returns-in_ok-extend_from_slice-in-len1-clause-part t c =
    on_err_kept c.extend_from_slice-in-len1-2.result _ _ _ c.extend_from_slice-in-len1-2.ensures.items (λ kept.
    front_last _ _ _ _ (one_text c.args.texts.now _ (omega (arith, c.in-len1.len_at_least)) (omega (arith, c.in-len1.len_below)))
    (kept ∙ c.in_ok-extend_from_slice-in-len1.ensures.items))

pub returns-in_ok-write_field-in-len1-up-clause-part : goal.returns-in_ok-write_field-in-len1-up-clause-part
returns-in_ok-write_field-in-len1-up-clause-part t c =
    on_err_weaker c.write_line.result (λ part.
    front_rest _ _ _ _ _ _ (first_text c.args.texts.now _ (omega (arith, c.in-len1-up.len_at_least)))
    (some_behind c.args.texts.now (omega (arith, c.in-len1-up.len_at_least))) c.in_ok-write_field-in-len1-up.ensures.done part)
    c.write_line.ensures.part

pub returns-in_err-extend_from_slice-in-len1-clause-done : goal.returns-in_err-extend_from_slice-in-len1-clause-done
returns-in_err-extend_from_slice-in-len1-clause-done t c = let p = err_from_is_err_and c.from_residual.result c.from_residual.ensures.1 in rw p.1 tt

pub returns-in_err-extend_from_slice-in-len1-clause-part : goal.returns-in_err-extend_from_slice-in-len1-clause-part
returns-in_err-extend_from_slice-in-len1-clause-part t c =
    on_err_from c.from_residual.result _
    ((0, c.in_err-extend_from_slice-in-len1.ensures.items ∙ sym (append-nil c.args.out.now.items)))

pub returns-in_err-extend_from_slice-in-len1-clause-grown : goal.returns-in_err-extend_from_slice-in-len1-clause-grown
returns-in_err-extend_from_slice-in-len1-clause-grown t c =
    on_err_from c.from_residual.result _
    (begun_kept _ _ c.in_err-extend_from_slice-in-len1.ensures.items)

pub returns-in_err-extend_from_slice-in-len1-clause-full : goal.returns-in_err-extend_from_slice-in-len1-clause-full
returns-in_err-extend_from_slice-in-len1-clause-full t c =
    on_err_from c.from_residual.result _
    (full_one _ _ _ _ (one_text c.args.texts.now _ (omega (arith, c.in-len1.len_at_least)) (omega (arith, c.in-len1.len_below)))
    c.in_err-extend_from_slice-in-len1.ensures.full)

pub returns-in_err-write_field-in-len1-up-clause-done : goal.returns-in_err-write_field-in-len1-up-clause-done
returns-in_err-write_field-in-len1-up-clause-done t c =
    let p = err_from_is_err_and c.from_residual-in_err-write_field-in-len1-up.result c.from_residual-in_err-write_field-in-len1-up.ensures.1 in rw p.1 tt

pub returns-in_err-write_field-in-len1-up-clause-grown : goal.returns-in_err-write_field-in-len1-up-clause-grown
returns-in_err-write_field-in-len1-up-clause-grown t c =
    on_err_from c.from_residual-in_err-write_field-in-len1-up.result _
    (c.in_err-write_field-in-len1-up.ensures.grown)

pub returns-in_err-write_field-in-len1-up-clause-full : goal.returns-in_err-write_field-in-len1-up-clause-full
returns-in_err-write_field-in-len1-up-clause-full t c =
    on_err_from c.from_residual-in_err-write_field-in-len1-up.result _
    (full_first _ _ _ _ _ (first_text c.args.texts.now _ (omega (arith, c.in-len1-up.len_at_least)))
    (some_behind c.args.texts.now (omega (arith, c.in-len1-up.len_at_least))) c.in_err-write_field-in-len1-up.ensures.full)

pub returns-in-empty-clause-done : goal.returns-in-empty-clause-done
returns-in-empty-clause-done t c =
    on_ok_done c.extend_from_slice.result _ _ _ c.extend_from_slice.ensures.items (λ done.
    done ∙ ap (λ all. c.args.out.now.items ++ line_of all) (sym (no_text c.args.texts.now (omega (arith, c.in-empty.len_below)))))

pub returns-in-empty-clause-part : goal.returns-in-empty-clause-part
returns-in-empty-clause-part t c =
    on_err_kept c.extend_from_slice.result _ _ _ c.extend_from_slice.ensures.items (λ kept. (0, kept ∙ sym (append-nil c.args.out.now.items)))

pub returns-in-empty-clause-grown : goal.returns-in-empty-clause-grown
returns-in-empty-clause-grown t c =
    on_err_kept c.extend_from_slice.result _ _ _ c.extend_from_slice.ensures.items (λ kept. begun_kept _ _ kept)

pub returns-in-empty-clause-full : goal.returns-in-empty-clause-full
returns-in-empty-clause-full t c =
    let size = ap (λ (all : List (List ℕ)). length (line_of all)) (no_text c.args.texts.now (omega (arith, c.in-empty.len_below))) in
    on_err_weaker c.extend_from_slice.result (λ full. omega (arith, full, size)) c.extend_from_slice.ensures.full

pub returns-in_ok-extend_from_slice-in-len1-clause-done : goal.returns-in_ok-extend_from_slice-in-len1-clause-done
returns-in_ok-extend_from_slice-in-len1-clause-done t c =
    on_ok_done c.extend_from_slice-in-len1-2.result _ _ _ c.extend_from_slice-in-len1-2.ensures.items (λ done.
    line_one _ _ _ _ _ (one_text c.args.texts.now _ (omega (arith, c.in-len1.len_at_least)) (omega (arith, c.in-len1.len_below)))
    c.in_ok-extend_from_slice-in-len1.ensures.items done)

pub returns-in_ok-extend_from_slice-in-len1-clause-grown : goal.returns-in_ok-extend_from_slice-in-len1-clause-grown
returns-in_ok-extend_from_slice-in-len1-clause-grown t c =
    on_err_kept c.extend_from_slice-in-len1-2.result _ _ _ c.extend_from_slice-in-len1-2.ensures.items (λ kept.
    begun_after _ _ _ _ c.in_ok-extend_from_slice-in-len1.ensures.items (begun_kept _ _ kept))

pub returns-in_ok-extend_from_slice-in-len1-clause-full : goal.returns-in_ok-extend_from_slice-in-len1-clause-full
returns-in_ok-extend_from_slice-in-len1-clause-full t c =
    on_err_weaker c.extend_from_slice-in-len1-2.result (λ full.
    full_last _ _ _ _ _ _ (one_text c.args.texts.now _ (omega (arith, c.in-len1.len_at_least)) (omega (arith, c.in-len1.len_below)))
    c.in_ok-extend_from_slice-in-len1.ensures.len c.in_ok-extend_from_slice-in-len1.ensures.capacity full)
    c.extend_from_slice-in-len1-2.ensures.full

pub returns-in_ok-write_field-in-len1-up-clause-done : goal.returns-in_ok-write_field-in-len1-up-clause-done
returns-in_ok-write_field-in-len1-up-clause-done t c =
    on_ok_weaker c.write_line.result (λ done.
    line_rest _ _ _ _ _ _ (first_text c.args.texts.now _ (omega (arith, c.in-len1-up.len_at_least)))
    (some_behind c.args.texts.now (omega (arith, c.in-len1-up.len_at_least))) c.in_ok-write_field-in-len1-up.ensures.done done)
    c.write_line.ensures.done

pub returns-in_ok-write_field-in-len1-up-clause-grown : goal.returns-in_ok-write_field-in-len1-up-clause-grown
returns-in_ok-write_field-in-len1-up-clause-grown t c =
    on_err_weaker c.write_line.result (λ more. begun_after _ _ _ _ c.in_ok-write_field-in-len1-up.ensures.done more) c.write_line.ensures.grown

pub returns-in_ok-write_field-in-len1-up-clause-full : goal.returns-in_ok-write_field-in-len1-up-clause-full
returns-in_ok-write_field-in-len1-up-clause-full t c =
    on_err_weaker c.write_line.result (λ full.
    full_rest _ _ _ _ _ _ _ (first_text c.args.texts.now _ (omega (arith, c.in-len1-up.len_at_least)))
    (some_behind c.args.texts.now (omega (arith, c.in-len1-up.len_at_least))) c.in_ok-write_field-in-len1-up.ensures.len c.in_ok-write_field-in-len1-up.ensures.grows full)
    c.write_line.ensures.full
