-- A body that is fed what is read, call by call.
use Rattle.std.proofs.Common.{◌≡◌, ℕ, ◌+◌, ◌-◌, ◌<◌, ◌≤◌, Bool, true, false, eqb, List, [], ◌++◌, length, Option, Ok, Err, refl, sym, ap, subst, arith, append_assoc, length-append}
use Rattle.std.specs.Io.KnownBytes.{Consumes}
use Rattle.std.proofs.lemmas.List.{append-nil}
use Rattle.mds_wire.specs.Calls.{HasRead}
use Rattle.mds_wire.specs.declared.body.BodyFault.{BodyFault}
use Rattle.mds_wire.specs.declared.body.BodyFault.TheVariants.{Read, Closed, Unavailable}
use Rattle.mds_wire.specs.declared.route.Route.{Route}
use Rattle.mds_wire.specs.BodySteps.{WantsBody, HoldsOf, IsFed, IsUnfedPiece, IsUnfed, FeedsNext, FeedsBody}
use Rattle.mds_wire.specs.Meaning.{TakesOf}
use Rattle.mds_wire.proofs.CallSteps.{read_none, read_next, read_last}
use Rattle.mds_wire.proofs.HeadReads.{not_none}

module _ {B : Type 0} (Holds : HoldsOf B) where
  -- two pieces, one behind the other
  fed_both : (a b c : B) (xs ys : List ℕ) → IsFed Holds a b xs → IsFed Holds b c ys → IsFed Holds a c (xs ++ ys)
  fed_both a b c xs ys first next route target size before holds few most =
      let is = append_assoc before xs ys in
      let long : length ((before ++ xs) ++ ys) ≡ length (before ++ (xs ++ ys)) = ap length is in
      let sum = length-append (before ++ xs) ys in
      subst (λ (t : List ℕ). Holds c route target size t) is
      (next route target size (before ++ xs) (first route target size before holds (omega (arith, few, long, sum)) most) (omega (arith, few, long)) most)

  -- a piece that wasn't taken, behind what was
  unfed_behind : (Takes : TakesOf) (a b : B) (xs ys : List ℕ) → IsFed Holds a b xs → IsUnfedPiece Holds Takes b ys
      → IsUnfed Holds Takes a (xs ++ ys)
  unfed_behind Takes a b xs ys first next route target size before holds few most =
      let long : length ((before ++ xs) ++ ys) ≡ length (before ++ (xs ++ ys)) = ap length (append_assoc before xs ys) in
      let sum = length-append (before ++ xs) ys in (
        xs,
        ys,
        refl,
        next route target size (before ++ xs) (first route target size before holds (omega (arith, few, long, sum)) most)
            (omega (arith, few, long)) most,
      )

  -- a piece that wasn't taken, alone
  unfed_alone : (Takes : TakesOf) (a : B) (ys : List ℕ) → IsUnfedPiece Holds Takes a ys → IsUnfed Holds Takes a ys
  unfed_alone Takes a ys next route target size before holds few most =
      ([], ys, refl, subst (λ (t : List ℕ). Takes route target size t ys) (sym (append-nil before)) (next route target size before holds few most))

  -- What was read so far was fed behind the front. So many bytes are left.
  pub record IsFeeding {S : Type 0} (first now : B) (front : List ℕ) (size : ℕ) (gives : S → List ℕ → S → Type 0) (old new : S)
      (old_left new_left : Option (List ℕ)) (left : ℕ) : Type 0 where
    pub bytes : List ℕ
    pub many : length front + length bytes + left ≡ size
    pub fed : IsFed Holds first now (front ++ bytes)
    pub read : HasRead (WantsBody front size) gives old new old_left new_left bytes false

  -- the front alone
  pub feeding_none : {S : Type 0} (a b : B) (front : List ℕ) (size : ℕ) (gives : S → List ℕ → S → Type 0) (s : S) (remaining : Option (List ℕ)) (left : ℕ)
      → length front + left ≡ size → IsFed Holds a b front → IsFeeding a b front size gives s s remaining remaining left
  feeding_none a b front size gives s remaining left many fed = record {
    bytes = [];
    many = omega (arith, many);
    fed = subst (λ (t : List ℕ). IsFed Holds a b t) (sym (append-nil front)) fed;
    read = read_none (WantsBody front size) gives s remaining;
  }

  -- a front that wasn't taken
  pub feeding_none_stops : {S : Type 0} (Takes : TakesOf) (a b : B) (front : List ℕ) (size : ℕ) (gives : S → List ℕ → S → Type 0) (s : S)
      (remaining : Option (List ℕ)) → length front ≤ size → IsUnfedPiece Holds Takes a front
      → FeedsBody Holds Takes {A = Unit {0}} a b front size gives s s remaining remaining (Err Unavailable)
  feeding_none_stops Takes a b front size gives s remaining few unfed = record {
    bytes = [];
    few = omega (arith, few);
    read = read_none (WantsBody front size) gives s remaining;
    is = subst (λ (t : List ℕ). IsUnfed Holds Takes a t) (sym (append-nil front)) (unfed_alone Takes a front unfed);
  }

  module _ {S : Type 0} (first now : B) (front : List ℕ) (size : ℕ) (gives : S → List ℕ → S → Type 0) (a b c : S) (old next later : Option (List ℕ)) (left : ℕ)
      (f : IsFeeding first now front size gives a b old next left) where
    -- bytes that a call brought
    read_more : (bytes : List ℕ) → 0 < length bytes → length bytes ≤ left → gives b bytes c → Consumes next later bytes
        → HasRead (WantsBody front size) gives a c old later (f.bytes ++ bytes) false
    read_more bytes some few gave consumed =
        let brought : eqb (length bytes) 0 ≡ false = not_none (length bytes) (λ e. omega (arith, e, some)) in
        subst (λ (e : Bool). HasRead (WantsBody front size) gives a c old later (f.bytes ++ bytes) e) brought
        (read_next (WantsBody front size) gives a b c old next later f.bytes bytes left f.read f.many (omega (arith, some, few)) few gave consumed)

    -- none that a call brought
    read_nothing : (bytes : List ℕ) → bytes ≡ [] → 0 < left → gives b bytes c → Consumes next later bytes
        → HasRead (WantsBody front size) gives a c old later f.bytes true
    read_nothing bytes none some gave consumed =
        read_last (WantsBody front size) gives a b c old next later f.bytes left f.read f.many some
        (subst (λ (t : List ℕ). gives b t c) none gave) (subst (λ (t : List ℕ). Consumes next later t) none consumed)

    -- a call whose bytes were fed
    pub feeding_more : (Takes : TakesOf) (new : B) (block count : ℕ) → block ≤ left → FeedsNext Holds Takes now new block gives b c next later (Ok count)
        → IsFeeding first new front size gives a c old later (left - count)
    feeding_more Takes new block count within n = record {
      bytes = f.bytes ++ n.bytes;
      many = omega (arith, f.many, n.is.0, n.few, within, length-append f.bytes n.bytes);
      fed = subst (λ (t : List ℕ). IsFed Holds first new t) (append_assoc front f.bytes n.bytes) (fed_both first now new (front ++ f.bytes) n.bytes f.fed n.is.2);
      read = read_more n.bytes (omega (arith, n.is.0, n.is.1)) (omega (arith, n.few, within)) n.gave n.consumed;
    }

    -- a call that brought nothing, or whose bytes weren't taken
    pub feeding_stops : (Takes : TakesOf) (new : B) (block : ℕ) (fault : BodyFault) → block ≤ left → 0 < left → FeedsNext Holds Takes now new block gives b c next later (Err fault)
        → FeedsBody Holds Takes {A = Unit {0}} first new front size gives a c old later (Err fault)
    feeding_stops Takes new block Unavailable within some n = record {
      bytes = f.bytes ++ n.bytes;
      few = omega (arith, f.many, n.few, within, length-append f.bytes n.bytes);
      read = read_more n.bytes n.is.0 (omega (arith, n.few, within)) n.gave n.consumed;
      is = subst (λ (t : List ℕ). IsUnfed Holds Takes first t) (append_assoc front f.bytes n.bytes)
          (unfed_behind Takes first now (front ++ f.bytes) n.bytes f.fed n.is.1);
    }
    feeding_stops Takes new block Read within some n = record {
      bytes = f.bytes;
      few = omega (arith, f.many);
      read = read_nothing n.bytes n.is some n.gave n.consumed;
      is = tt;
    }
    feeding_stops Takes new block Closed within some n = record {
      bytes = f.bytes;
      few = omega (arith, f.many);
      read = read_nothing n.bytes n.is.0 some n.gave n.consumed;
      is = (n.is.1, omega (arith, f.many, some));
    }
