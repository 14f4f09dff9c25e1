-- Lists of data, beside what they tell in turn, and how they are sent.
use Rattle.std.proofs.Common.{◌≡◌, ℕ, suc, List, [], ◌∷◌, length, map, Some, refl, sym, ap, subst}
use Rattle.serde.specs.Event.{Log, Logs, WritesEach, WritesSeq, seq_begins, seq_ends}
use Rattle.serde_json.specs.Data.{Data, array, string}
use Rattle.serde_json.specs.Events.{SendsItems, SendsValue, items_len}
use Rattle.serde_json.specs.View.{items_of}
use Rattle.mds_answers.specs.Json.{AreEach, texts}
use Rattle.mds_answers.specs.JsonSteps.{SendsTexts, Tells}

-- the data of each thing, sent as the items of a list
record AreSent {T : Type 0} (Is : T → Data → Type 0) (things : List T) (first new : Log) : Type 0 where
  told : List Data
  are : AreEach Is things told
  count : items_len (items_of told) ≡ length things
  sent : SendsItems (items_of told) first new

items_told : {T : Type 0} (Is : T → Data → Type 0) (things : List T) (first last new : Log) → WritesEach (Tells Is) things first last
    → Logs last new seq_ends → AreSent Is things first new
items_told Is [] first last new each ended = record {
  told = [];
  are = tt;
  count = refl;
  sent = subst (λ log. Logs log new seq_ends) each ended;
}
items_told Is (thing ∷ things) first last new (mid, tells, each) ended =
    let rest = items_told Is things mid last new each ended in
    record {
      told = tells.0 ∷ rest.told;
      are = (tells.1, rest.are);
      count = ap suc rest.count;
      sent = (mid, tells.2, rest.sent);
    }

-- the data of each thing, sent as a list
pub list_told : {T : Type 0} (Is : T → Data → Type 0) (things : List T) (old new : Log) → WritesSeq (Tells Is) things old new
    → (told : List Data) × AreEach Is things told × SendsValue (array (items_of told)) old new
list_told Is things old new (first, last, begun, each, ended) =
    let items = items_told Is things first last new each ended in
    (items.told, items.are, (first, subst (λ n. Logs old first (seq_begins (Some n))) (sym items.count) begun, items.sent))

-- texts, sent as the items of a list
texts_left : (parts : List (List ℕ)) (first last new : Log) → SendsTexts parts first last → Logs last new seq_ends
    → SendsItems (items_of (map string parts)) first new
texts_left [] first last new each ended = subst (λ log. Logs log new seq_ends) each ended
texts_left (part ∷ parts) first last new (mid, sent, each) ended = (mid, sent, texts_left parts mid last new each ended)

texts_count : (parts : List (List ℕ)) → items_len (items_of (map string parts)) ≡ length parts
texts_count [] = refl
texts_count (part ∷ parts) = ap suc (texts_count parts)

-- texts, sent as a list
pub texts_sent : (parts : List (List ℕ)) (old first last new : Log) → Logs old first (seq_begins (Some (length parts)))
    → SendsTexts parts first last → Logs last new seq_ends → SendsValue (texts parts) old new
texts_sent parts old first last new begun each ended = (
  first,
  subst (λ n. Logs old first (seq_begins (Some n))) (sym (texts_count parts)) begun,
  texts_left parts first last new each ended,
)

-- each told as a function says
pub map_from_AreEach : {T : Type 0} (f : T → Data) (things : List T) (told : List Data)
    → AreEach (λ thing one. one ≡ f thing) things told → told ≡ map f things
map_from_AreEach f [] [] are = refl
map_from_AreEach f (x ∷ xs) (d ∷ ds) are = cc (map_from_AreEach f xs ds are.1, are.0)
map_from_AreEach f [] (d ∷ ds) are = absurd are
map_from_AreEach f (x ∷ xs) [] are = absurd are
