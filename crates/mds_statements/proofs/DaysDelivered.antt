-- The days that a delivery states: those of its blocks, in the same order.
use Rattle.std.proofs.Common.{◌≡◌, ℕ, suc, ◌<◌, List, [], ◌∷◌, ◌++◌, length, map, refl, sym, ◌∙◌, ap, subst, arith}
use Rattle.std.specs.List.{All, AllPairs, flat_map}
use Rattle.std.proofs.lemmas.Grind.{flat_map-append}
use Rattle.std.proofs.lemmas.List.{get_or-map, length-map, map-append}
use Rattle.std.proofs.lemmas.List.Elements.{All-append, All-cons, All-head, All-map, All-nil, All-tail}
use Rattle.std.proofs.lemmas.List.Kept.{AllPairs-cons}
use Rattle.mds_calendar.specs.Length.{count_of}
use Rattle.mds_terms.specs.Event.{EventValue}
use Rattle.mds_statements.specs.Delivered.{block_statements, day_in, day_statements, delivery_statements}
use Rattle.mds_statements.specs.Orderly.{AreOrderly, IsWhole, days_of_blocks}
use Rattle.mds_statements.specs.Statements.{DayStatement, days_in, days_of}
use Rattle.mds_statements.specs.Statements.Statement.{EventOf}
use Rattle.mds_statements.specs.declared.blocks.Block.{Block}
use Rattle.mds_statements.specs.declared.blocks.DeliveredDay.{DeliveredDay}
use Rattle.mds_statements.specs.declared.delivery.Delivery.{Delivery}

-- the days of a block as statements, and those of all blocks
abbrev pub block_days : Block → List DayStatement
block_days block = map (day_in block) block.days.items

abbrev pub blocks_days : List Block → List DayStatement
blocks_days blocks = flat_map block_days blocks

-- ---- what a delivery states

events_dayless : (events : List EventValue) → days_of (map EventOf events) ≡ []
events_dayless [] = refl
events_dayless (event ∷ events) = events_dayless events

days_of_days : (moment : ℕ) (block : Block) (days : List DeliveredDay)
    → days_of (flat_map (day_statements moment block) days) ≡ map (day_in block) days
days_of_days moment block [] = refl
days_of_days moment block (day ∷ days) =
    ap (λ t. day_in block day ∷ t)
    (flat_map-append days_in (map EventOf day.events.items) (flat_map (day_statements moment block) days)
    ∙ ap (λ t. t ++ days_of (flat_map (day_statements moment block) days)) (events_dayless day.events.items)
    ∙ days_of_days moment block days)

-- the days that blocks state under a header of a moment
pub days_of_statements : (moment : ℕ) (blocks : List Block) → days_of (flat_map (block_statements moment) blocks) ≡ blocks_days blocks
days_of_statements moment [] = refl
days_of_statements moment (block ∷ blocks) =
    flat_map-append days_in (flat_map (day_statements moment block) block.days.items) (flat_map (block_statements moment) blocks)
    ∙ ap (λ t. t ++ days_of (flat_map (block_statements moment) blocks)) (days_of_days moment block block.days.items)
    ∙ ap (λ t. block_days block ++ t) (days_of_statements moment blocks)

-- the days of a delivery are, in order, those of each block
pub days_delivered : (delivery : Delivery) → days_of (delivery_statements delivery) ≡ blocks_days delivery.blocks.items
days_delivered delivery = days_of_statements delivery.header.moment delivery.blocks.items

-- ---- their order

mapped_line : (block : Block) (days : List DeliveredDay) → map (λ day. day.line) (map (day_in block) days) ≡ map (λ day. day.line) days
mapped_line block [] = refl
mapped_line block (day ∷ days) = ap (λ t. day.line ∷ t) (mapped_line block days)

-- on the same lines as the days of the blocks
pub same_lines : (blocks : List Block) → map (λ day. day.line) (blocks_days blocks) ≡ map (λ day. day.line) (days_of_blocks blocks)
same_lines [] = refl
same_lines (block ∷ blocks) =
    map-append (λ (day : DayStatement). day.line) (block_days block) (blocks_days blocks)
    ∙ ap (λ t. t ++ map (λ (day : DayStatement). day.line) (blocks_days blocks)) (mapped_line block block.days.items)
    ∙ ap (λ t. map (λ (day : DeliveredDay). day.line) block.days.items ++ t) (same_lines blocks)
    ∙ sym (map-append (λ (day : DeliveredDay). day.line) block.days.items (days_of_blocks blocks))

lines_to : {T : Type 0} (line : T → ℕ) (xs : List T) → AllPairs (λ a b. line a < line b) xs → AllPairs (λ a b. a < b) (map line xs)
lines_to line [] pairs = λ i j d lt within. absurd (omega arith)
lines_to line (x ∷ xs) pairs =
    AllPairs-cons (λ a b. a < b) (line x) (map line xs)
    (All-map (λ n. line x < n) line xs (λ k d within. pairs 0 (suc k) d (omega arith) (omega arith)))
    (lines_to line xs (λ i j d lt within. pairs (suc i) (suc j) d (omega arith) (omega arith)))

lines_back : {T : Type 0} (line : T → ℕ) (xs : List T) → AllPairs (λ a b. a < b) (map line xs) → AllPairs (λ a b. line a < line b) xs
lines_back line xs pairs i j d lt within =
    let size = length-map xs line in
    let order = pairs i j (line d) lt (omega arith) in
    rw (sym (get_or-map line xs i d (line d) (omega arith)), sym (get_or-map line xs j d (line d) within)) order

-- ---- how many readings they have

all_parted : {T : Type 0} (P : T → Type 0) (xs ys : List T) → All P (xs ++ ys) → All P xs × All P ys
all_parted P [] ys h = (All-nil P, h)
all_parted P (x ∷ xs) ys h =
    let later = all_parted P xs ys (All-tail P x (xs ++ ys) h) in (All-cons P x xs (All-head P x (xs ++ ys) h) later.0, later.1)

all_unmapped : {A B : Type 0} (P : B → Type 0) (f : A → B) (xs : List A) → All P (map f xs) → All (λ x. P (f x)) xs
all_unmapped P f [] h = All-nil (λ x. P (f x))
all_unmapped P f (x ∷ xs) h =
    All-cons (λ x. P (f x)) x xs (All-head P (f x) (map f xs) h) (all_unmapped P f xs (All-tail P (f x) (map f xs) h))

whole_days : (blocks : List Block) → All IsWhole blocks → All (λ day. length day.readings ≡ count_of day.length) (blocks_days blocks)
whole_days [] whole = All-nil (λ day. length day.readings ≡ count_of day.length)
whole_days (block ∷ blocks) whole =
    All-append (λ day. length day.readings ≡ count_of day.length) (block_days block) (blocks_days blocks)
    (All-map (λ day. length day.readings ≡ count_of day.length) (day_in block) block.days.items (All-head IsWhole block blocks whole))
    (whole_days blocks (All-tail IsWhole block blocks whole))

whole_blocks : (blocks : List Block) → All (λ day. length day.readings ≡ count_of day.length) (blocks_days blocks) → All IsWhole blocks
whole_blocks [] whole = All-nil IsWhole
whole_blocks (block ∷ blocks) whole =
    let parts = all_parted (λ day. length day.readings ≡ count_of day.length) (block_days block) (blocks_days blocks) whole in
    All-cons IsWhole block blocks
    (all_unmapped (λ day. length day.readings ≡ count_of day.length) (day_in block) block.days.items parts.0)
    (whole_blocks blocks parts.1)

-- ---- orderly blocks, by the days that they state

-- Days stand on ascending lines, each with a reading for each interval of its length.
pub record AreOrderlyDays (days : List DayStatement) : Type 0 where
  pub lines : AllPairs (λ a b. a.line < b.line) days
  pub whole : All (λ day. length day.readings ≡ count_of day.length) days

pub orderly_from_days : (blocks : List Block) → AreOrderlyDays (blocks_days blocks) → AreOrderly blocks
orderly_from_days blocks h = record {
  whole = whole_blocks blocks h.whole;
  lines = lines_back (λ (day : DeliveredDay). day.line) (days_of_blocks blocks)
      (subst (λ lines. AllPairs (λ a b. a < b) lines) (same_lines blocks)
      (lines_to (λ (day : DayStatement). day.line) (blocks_days blocks) h.lines));
}

pub days_from_orderly : (blocks : List Block) → AreOrderly blocks → AreOrderlyDays (blocks_days blocks)
days_from_orderly blocks h = record {
  lines = lines_back (λ (day : DayStatement). day.line) (blocks_days blocks)
      (subst (λ lines. AllPairs (λ a b. a < b) lines) (sym (same_lines blocks))
      (lines_to (λ (day : DeliveredDay). day.line) (days_of_blocks blocks) h.lines));
  whole = whole_days blocks h.whole;
}

-- the days that a delivery states are orderly
pub delivery_orderly : (delivery : Delivery) → AreOrderlyDays (days_of (delivery_statements delivery))
delivery_orderly delivery =
    subst AreOrderlyDays (sym (days_delivered delivery)) (days_from_orderly delivery.blocks.items delivery.orderly)
