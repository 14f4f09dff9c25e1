-- Which days the collecting of a file asks for.
use Rattle.std.specs.Prelude.{◌≡◌, ℕ, ◌<◌, List, ◌∷◌, ◌++◌, length, map, slice_index_or, refl}
use Rattle.std.specs.List.{All, flat_map}
use Rattle.std.proofs.Common.{sym, subst, inl, arith}
use Rattle.std.proofs.lemmas.List.Elements.{All-get_or, All-same}
use Rattle.mds_names.specs.declared.stream.Stream.{Stream}
use Rattle.mds_statements.proofs.DaysDelivered.{days_delivered}
use Rattle.mds_statements.specs.Delivered.{delivery_statements}
use Rattle.mds_statements.specs.Statements.{days_of}
use Rattle.mds_statements.specs.declared.blocks.Block.{Block}
use Rattle.mds_statements.specs.declared.blocks.DeliveredDay.{DeliveredDay}
use Rattle.mds_statements.specs.declared.delivery.Delivery.{Delivery}
use Rattle.mds_world.proofs.Lists.{append_right, flat_in, in_map, map_in}
use Rattle.mds_world.specs.Lists.{Member}
use Rattle.mds_service.specs.Asking.{AreDays, AreOfDates, AreStated, AsksOnly, IsNone}
use Rattle.mds_service.specs.Asking.AsksOnly.{Nothing, Other, Then}
use Rattle.mds_service.specs.Collecting.{block_days, day_of}
use Rattle.mds_service.specs.OpeningSteps.{IsOfDates}
use Rattle.mds_service.specs.declared.opening.Stretch.{Stretch}

module _ {S : Type 0} {asks : S → Stream → ℕ → ℕ → S → Type 0} {others : S → S → Type 0} where
  pub asks_one : {Holds : Stream → ℕ → ℕ → Type 0} {old new : S} (stream : Stream) (first last : ℕ)
      → asks old stream first last new → Holds stream first last → AsksOnly asks others Holds old new
  asks_one stream first last asked holds = Then stream first last Nothing asked holds

  pub asks_on : {Holds : Stream → ℕ → ℕ → Type 0} {old mid new : S} → AsksOnly asks others Holds old mid → AsksOnly asks others Holds mid new
      → AsksOnly asks others Holds old new
  asks_on one Nothing = one
  asks_on one (Then stream first last other asked holds) = Then stream first last (asks_on one other) asked holds
  asks_on one (Other earlier call) = Other (asks_on one earlier) call

  pub asks_wider : {Holds Says : Stream → ℕ → ℕ → Type 0} {old new : S}
      → ((stream : Stream) (first last : ℕ) → Holds stream first last → Says stream first last) → AsksOnly asks others Holds old new
      → AsksOnly asks others Says old new
  asks_wider so Nothing = Nothing
  asks_wider so (Then stream first last other asked holds) =
      Then stream first last (asks_wider so other) asked (so stream first last holds)
  asks_wider so (Other earlier call) = Other (asks_wider so earlier) call

  -- calls that ask for no days ask for these alone
  pub asks_none : {Holds : Stream → ℕ → ℕ → Type 0} {old new : S} → AsksOnly asks others IsNone old new → AsksOnly asks others Holds old new
  asks_none asked = asks_wider (λ _ _ _ none. absurd none) asked

  -- days of one of these stretches are of their dates
  pub asks_of_stretch : {old new : S} (stream : Stream) (dates : List ℕ) (ahead : List Stretch) (i : ℕ) (stretch : Stretch)
      → i < length ahead → stretch ≡ slice_index_or ahead i stretch → All (IsOfDates dates) ahead
      → AsksOnly asks others (AreDays stream stretch.first stretch.last) old new → AsksOnly asks others (AreOfDates stream dates) old new
  asks_of_stretch stream dates ahead i stretch here is all asked =
      let of_dates = subst (IsOfDates dates) (sym is) (All-get_or (IsOfDates dates) ahead i stretch here all) in
      asks_wider (λ of first last are. (
        are.0,
        record {
          each = λ day low high. of_dates.each day (omega (arith, low, are.1)) (omega (arith, high, are.2));
          few = omega (arith, are.1, are.2, of_dates.few);
        },
      )) asked

  -- days of the stretches of a block's dates are days that it states
  pub asks_of_block : {old new : S} (block : Block) (days : List DeliveredDay) (found ahead : List Stretch)
      → days ≡ block.days.items → All (IsOfDates (map (λ day. day.date) days)) found → ahead ≡ found
      → ((dates : List ℕ) → All (IsOfDates dates) ahead → AsksOnly asks others (AreOfDates block.stream dates) old new)
      → AsksOnly asks others (AreStated (block_days block)) old new
  asks_of_block block days found ahead same all is asked = asks_wider (λ stream first last are. record {
    each = λ day from upto.
        let at = in_map (λ (day : DeliveredDay). day.date) block.days.items day (are.1.each day from upto) in (
          day_of block.stream block.length block.unit at.0,
          map_in (day_of block.stream block.length block.unit) block.days.items at.0 at.1,
          sym are.0,
          sym at.2,
        );
    few = are.1.few;
  }) (asked _ (subst (λ ds. All (IsOfDates (map (λ day. day.date) ds)) ahead) same
      (All-same (IsOfDates (map (λ day. day.date) days)) ahead found is all)))

  -- so is one of its days
  pub asks_of_day : {old new : S} (block : Block) (front behind later : List DeliveredDay) (day : DeliveredDay)
      → front ++ behind ≡ block.days.items → behind ≡ day ∷ later
      → AsksOnly asks others (AreDays block.stream day.date day.date) old new
      → AsksOnly asks others (AreStated (block_days block)) old new
  asks_of_day block front behind later day all first asked = asks_wider (λ stream from upto are. record {
    each = λ number low high. (
      day_of block.stream block.length block.unit day,
      map_in (day_of block.stream block.length block.unit) block.days.items day
          (subst (Member day) all (append_right day front behind (subst (Member day) (sym first) (inl refl)))),
      sym are.0,
      omega (arith, low, high, are.1, are.2),
    );
    few = omega (arith, are.1, are.2);
  }) asked

  -- days of a block are days of all blocks
  pub asks_of_blocks : {old new : S} (blocks front behind later : List Block) (block : Block)
      → front ++ behind ≡ blocks → behind ≡ block ∷ later
      → AsksOnly asks others (AreStated (block_days block)) old new
      → AsksOnly asks others (AreStated (flat_map block_days blocks)) old new
  asks_of_blocks blocks front behind later block all first asked = asks_wider (λ stream from upto are. record {
    each = λ day low high.
        let stated = are.each day low high in (
          stated.0,
          flat_in block_days blocks stated.0 block
              (subst (Member block) all (append_right block front behind (subst (Member block) (sym first) (inl refl)))) stated.1,
          stated.2,
          stated.3,
        );
    few = are.few;
  }) asked

  -- days of all its blocks are days of a delivery
  pub asks_of_delivery : {old new : S} (delivery : Delivery)
      → AsksOnly asks others (AreStated (flat_map block_days delivery.blocks.items)) old new
      → AsksOnly asks others (AreStated (days_of (delivery_statements delivery))) old new
  asks_of_delivery {old = old} {new = new} delivery asked =
      subst (λ days. AsksOnly asks others (AreStated days) old new) (sym (days_delivered delivery)) asked
