use Rattle.std.proofs.Common.{◌≡◌, ◌≤◌, ◌++◌, ℕ, List, [], ◌∷◌, length, map, Option, None, Some, Result, Ok, Err, IfSome, MatchResult, ap, sym, subst, arith}
use Rattle.std.specs.List.{concat}
use Rattle.std.proofs.lemmas.List.{append-nil}
use denote.Ref.{Bor}
use Rattle.mds_walk.specs.Answers.{IsRefusal}
use Rattle.mds_walk.specs.Feeding.{WasFed}
use Rattle.mds_walk.specs.SoFar.{fault_so_far}
use Rattle.mds_walk.specs.declared.fault.TakeFault.TheVariants.{Memory}
use Rattle.mds_walk.proofs.Steps.{fed_refused, first_piece, first_pieces, lack_first, lack_later, none_fed, pieces_fed, pieces_refused}
use Rattle.mds_walk.proofs.laws.+feed_all.Goals as goal

-- there is a first piece
some_piece : {T P : Type 0} (pieces : List T) → 1 ≤ length pieces → pieces ≡ [] → P
some_piece [] some none = absurd (omega arith)
some_piece (x ∷ xs) some none = absurd (cc)

-- a piece was taken, so there was no fault before it
unrefused : {U F : Type 0} (P Q : F → Type 0) (found : Option F) (x : U) → IfSome found (λ fault. (◌≡◌ {A = Result U F} (Ok x) (Err fault)) × P fault) → IfSome found Q
unrefused P Q None x h = tt
unrefused P Q (Some fault) x h = let e = h.0 in absurd (cc)

-- no pieces add nothing
no_more : (P : List ℕ → Type 0) (text : List ℕ) (pieces : List (Bor (List ℕ))) → length pieces ≡ 0 → P text → P (text ++ concat (map (λ piece. piece.now) pieces))
no_more P text [] none h = subst P (sym (append-nil text)) h
no_more P text (x ∷ xs) none h = absurd (omega arith)

pub returns-in-Err-clause-fed : goal.returns-in-Err-clause-fed
returns-in-Err-clause-fed g n c = λ text h.
    fed_refused g.T.RecordSink.judge g.T.RecordSink.taken _ _ _ c.in-Err.ensures.kept
    (pieces_refused g.T.RecordSink.judge text _ _ _ _ (first_piece c.args.pieces.now _ c.in-len1-up.len_at_least) (c.in-Err.ensures.answer text h))

pub returns-in-Err-clause-answer : goal.returns-in-Err-clause-answer
returns-in-Err-clause-answer g n c = λ text h none.
    pieces_refused g.T.RecordSink.judge text _ _ _ _ (first_piece c.args.pieces.now _ c.in-len1-up.len_at_least) (c.in-Err.ensures.answer text h)

pub returns-in-Ok-clause-fed : goal.returns-in-Ok-clause-fed
returns-in-Ok-clause-fed g t c = λ text h.
    pieces_fed (λ t. WasFed g.T.RecordSink.judge g.T.RecordSink.taken t c.feed_all.new.feeder) text _ _ _ (first_piece c.args.pieces.now _ c.in-len1-up.len_at_least)
    (c.feed_all.ensures.fed _ (c.feed.ensures.fed text h))

pub returns-in-Ok-clause-answer : goal.returns-in-Ok-clause-answer
returns-in-Ok-clause-answer g t c = λ text h none.
    pieces_fed (λ t. MatchResult c.feed_all.result (λ _. fault_so_far g.T.RecordSink.judge t ≡ None) (IsRefusal (fault_so_far g.T.RecordSink.judge t)))
    text _ _ _ (first_piece c.args.pieces.now _ c.in-len1-up.len_at_least)
    (c.feed_all.ensures.answer _ (c.feed.ensures.fed text h) (c.in-Ok.ensures.answer text h))

pub returns-in-Err-clause-memory : goal.returns-in-Err-clause-memory
returns-in-Err-clause-memory g n c = λ text h unrefused wanting.
    let is : c.in-Err.fault ≡ Memory = cc in
    lack_first g.T.RecordSink.may_lack g.T.RecordSink.judge text _ _ _ (first_pieces c.args.pieces.now _ c.in-len1-up.len_at_least)
    (none_fed g.T.RecordSink.judge g.T.RecordSink.taken text c.args.feeder.now unrefused h).none
    (c.in-Err.ensures.memory text h unrefused (ap Err is))

pub returns-in-Ok-clause-memory : goal.returns-in-Ok-clause-memory
returns-in-Ok-clause-memory g t c = λ text h unrefused wanting.
    lack_later g.T.RecordSink.may_lack g.T.RecordSink.judge text _ _ _ (first_pieces c.args.pieces.now _ c.in-len1-up.len_at_least)
    (c.feed_all.ensures.memory _ (c.feed.ensures.fed text h) (c.in-Ok.ensures.stays text h) wanting)

pub returns-in-Err-clause-stays : goal.returns-in-Err-clause-stays
returns-in-Err-clause-stays g n c = λ text h none. tt

pub returns-in-Err-clause-again : goal.returns-in-Err-clause-again
returns-in-Err-clause-again g n c = λ some. c.in-Err.ensures.again

pub returns-in-Err-clause-kept : goal.returns-in-Err-clause-kept
returns-in-Err-clause-kept g n c = c.in-Err.ensures.kept

pub returns-in-Err-clause-nothing : goal.returns-in-Err-clause-nothing
returns-in-Err-clause-nothing g n c = λ none. some_piece c.args.pieces.now c.in-len1-up.len_at_least none

pub returns-in-Ok-clause-stays : goal.returns-in-Ok-clause-stays
returns-in-Ok-clause-stays g t c = λ text h none. c.feed_all.ensures.stays _ (c.feed.ensures.fed text h) (c.in-Ok.ensures.stays text h)

pub returns-in-Ok-clause-again : goal.returns-in-Ok-clause-again
returns-in-Ok-clause-again g t c = λ some. unrefused _ _ _ _ c.in-Ok.ensures.again

pub returns-in-Ok-clause-kept : goal.returns-in-Ok-clause-kept
returns-in-Ok-clause-kept g t c = c.feed_all.ensures.kept

pub returns-in-Ok-clause-nothing : goal.returns-in-Ok-clause-nothing
returns-in-Ok-clause-nothing g t c = λ none. some_piece c.args.pieces.now c.in-len1-up.len_at_least none

pub returns-in-empty-clause-fed : goal.returns-in-empty-clause-fed
returns-in-empty-clause-fed g n c = λ text h.
    let none : length c.args.pieces.now ≡ 0 = omega arith in
    no_more (λ t. WasFed g.T.RecordSink.judge g.T.RecordSink.taken t c.args.feeder.now) text c.args.pieces.now none h
