-- Days that share details: put together, and asked for at once.
use Rattle.std.specs.Prelude.{◌≡◌, ◌↔◌, ◌⊎◌, ℕ, List, [], ◌∷◌, ◌++◌, map, Bool, true, false, cond, Option, Some, None, is_some, refl}
use Rattle.std.proofs.Common.{sym, ap, ◌∙◌, subst, inl, inr, arith}
use Rattle.std.proofs.lemmas.List.{append-nil, flat_map_more, map-append}
use Rattle.std.proofs.lemmas.Map.Entries.{btree_map_get_place, place_from_lookup}
use Rattle.std.specs.BTreeMap.{BTreeMap, IsOrdered, WritesThrough, get, is_at}
use Rattle.std.specs.Cmp.{IsTotalOrder, Equal-is, nat_cmp_total, on_total, then_total, tied_itself}
use Rattle.std.specs.Cmp.Lexicographic.{nat_list_cmp_total, slice_cmp}
use Rattle.std.specs.FinSet.{IsAntisymmetric, nat_cmp-IsAntisymmetric, slice_cmp-IsAntisymmetric}
use Rattle.std.specs.Map.{keys_of, lookup}
use Rattle.std.specs.Ordering.{is_eq, nat_cmp, ordering_then}
use Rattle.std.specs.declared.alloc.Global.{Global}
use Rattle.std.specs.declared.cmp.Ord.{Ghosts}
use Rattle.std.specs.declared.cmp.Ordering.{Ordering}
use Rattle.std.specs.declared.cmp.Ordering.TheVariants.{Less, Equal, Greater}
use Rattle.std.specs.declared.vec.Vec.{Vec}
use Rattle.mds_terms.proofs.TermOrder.{details_exact}
use Rattle.mds_terms.specs.Details.{details_cmp}
use Rattle.mds_terms.specs.TermOrder.{details_total}
use Rattle.mds_world.specs.declared.facts.Detail.{Detail}
use Rattle.mds_world.specs.Facts.Fact.{DetailIs}
use Rattle.mds_world.proofs.Lists.{append_left, append_right, apart_append, flat_in, in_flat, in_map, map_in, member_append}
use Rattle.mds_world.specs.Lists.{Apart, Member}
use Rattle.mds_world.specs.Sets.{◌∈◌}
use Rattle.mds_world.specs.World.{World}
use Rattle.mds_keeper.specs.Content.{detail_on, details_of, details_on}
use Rattle.mds_keeper.specs.Queries.{AreDaysWithout, stream_cmp}
use Rattle.mds_keeper.specs.declared.additions.DetailDays.{DetailDays}
use Rattle.mds_service.specs.ListingSteps.{Ascends}
use Rattle.mds_service.specs.SharedDays.{HasDetail, IsAmong, shared_of}
use Rattle.mds_service.specs.contracts.details.SharedDetailsOrd.TheImpl as derived
use Rattle.mds_service.specs.declared.details.SharedDetails.{SharedDetails}
use Rattle.mds_service.proofs.Adding.{apart_parts, member_place, place_member}
use Rattle.mds_service.proofs.Listed.{ascends}
use Rattle.mds_service.proofs.Sifting.{sorted_apart}

-- ---- the order of what is shared

-- `cmp` of `SharedDetails`
abbrev pub shared_cmp : SharedDetails → SharedDetails → Ordering
shared_cmp = denote.Param.read (Ghosts.cmp {X-1 = SharedDetails}) derived.ghosts

-- by the stream, the moment, and then the details
parts_cmp : SharedDetails → SharedDetails → Ordering
parts_cmp a b =
    ordering_then (stream_cmp a.stream b.stream)
    (ordering_then (nat_cmp a.moment b.moment) (details_cmp a.details b.details))

shared_parts : (a b : SharedDetails) → shared_cmp a b ≡ parts_cmp a b
unfolding parts_cmp
shared_parts a b = refl

shared_total : IsTotalOrder shared_cmp
shared_total =
    then_total
    (on_total (λ (x : SharedDetails). x.stream)
    (then_total (on_total (λ s. s.nmi) nat_list_cmp_total) (on_total (λ s. s.suffix) nat_list_cmp_total)))
    (then_total (on_total (λ (x : SharedDetails). x.moment) nat_cmp_total)
    (on_total (λ (x : SharedDetails). x.details) details_total))

-- where two orders that follow each other tie, both do
tie : (a b : Ordering) → ordering_then a b ≡ Equal → (a ≡ Equal) × (b ≡ Equal)
tie Less b e = cc
tie Equal b e = (refl, e)
tie Greater b e = cc

text_exact : IsAntisymmetric (slice_cmp nat_cmp)
text_exact = slice_cmp-IsAntisymmetric nat_cmp-IsAntisymmetric

stream_exact : IsAntisymmetric stream_cmp
stream_exact a b e =
    let t = tie (slice_cmp nat_cmp a.nmi b.nmi) _ e in
    let n = text_exact a.nmi b.nmi t.0 in
    let s = text_exact a.suffix b.suffix t.1 in
    λ i. record { nmi = n i; suffix = s i }

parts_one : (a b : SharedDetails) → parts_cmp a b ≡ Equal → a ≡ b
unfolding parts_cmp
parts_one a b e =
    let t = tie (stream_cmp a.stream b.stream) _ e in
    let u = tie (nat_cmp a.moment b.moment) _ t.1 in
    let s = stream_exact a.stream b.stream t.0 in
    let m = nat_cmp-IsAntisymmetric a.moment b.moment u.0 in
    let d = details_exact a.details b.details u.1 in
    λ i. record { stream = s i; moment = m i; details = d i }

-- what compares alike is one
shared_one : (a b : SharedDetails) → is_eq (shared_cmp a b) ≡ true → a ≡ b
shared_one a b e = parts_one a b (sym (shared_parts a b) ∙ (Equal-is (shared_cmp a b)).0 e)

-- ---- days that are put beside those before them

-- what days of a group share
abbrev pub key_of : DetailDays → SharedDetails
key_of group = record { stream = group.stream; moment = group.moment; details = group.details }

-- details of a group share what its days do
on_key : (group : DetailDays) (x : Detail) → Member x (details_on group) → key_of group ≡ shared_of x
on_key group x m = let r = in_map (detail_on group) group.days.items x m in ap shared_of (sym r.2)

-- the days of a group are those that its details are of
to_day : (group : DetailDays) (x : Detail) → Member x (details_on group) → Member x.day group.days.items
to_day group x m =
    let r = in_map (detail_on group) group.days.items x m in
    subst (λ d. Member d group.days.items) (sym (ap (λ (d : Detail). d.day) r.2)) r.1

of_day : (group : DetailDays) (x : Detail) → key_of group ≡ shared_of x → Member x.day group.days.items
    → Member x (details_on group)
of_day group x same m =
    let is : detail_on group x.day ≡ x =
    λ i. record { stream = (same i).stream; day = x.day; moment = (same i).moment; details = (same i).details } in
    subst (λ d. Member d (details_on group)) is (map_in (detail_on group) group.days.items x.day m)

-- A key gets the days that it had, if any, with those of the group.
put_in : (group : DetailDays) (old new : BTreeMap SharedDetails (Vec ℕ Global)) (before : Option (Vec ℕ Global))
    (after : Vec ℕ Global) → get shared_cmp old (key_of group) ≡ before
    → ((q : SharedDetails) → get shared_cmp new q ≡ cond (is_eq (shared_cmp (key_of group) q)) (Some after) (get shared_cmp old q))
    → ((day : ℕ) → Member day after.items ↔ (IsAmong day before ⊎ Member day group.days.items))
    → (x : Detail) → HasDetail shared_cmp new x ↔ (HasDetail shared_cmp old x ⊎ Member x (details_on group))
put_in group old new before after was now days x = by (is_eq (shared_cmp (key_of group) (shared_of x))) refl
  where
    by : (b : Bool) → is_eq (shared_cmp (key_of group) (shared_of x)) ≡ b
        → HasDetail shared_cmp new x ↔ (HasDetail shared_cmp old x ⊎ Member x (details_on group))
    by true e =
        let same : key_of group ≡ shared_of x = shared_one (key_of group) (shared_of x) e in
        let has : get shared_cmp new (shared_of x) ≡ Some after =
        now (shared_of x) ∙ ap (λ b. cond b (Some after) (get shared_cmp old (shared_of x))) e in
        let had : get shared_cmp old (shared_of x) ≡ before = subst (λ k. get shared_cmp old k ≡ before) same was in (
          (λ h. elim ((days x.day).0 (subst (IsAmong x.day) has h)) [
            | inl a ↦ inl (subst (IsAmong x.day) (sym had) a)
            | inr m ↦ inr (of_day group x same m)
          ]),
          (λ h. subst (IsAmong x.day) (sym has) ((days x.day).1 (elim h [
            | inl a ↦ inl (subst (IsAmong x.day) had a)
            | inr m ↦ inr (to_day group x m)
          ]))),
        )
    by false e =
        let stays : get shared_cmp new (shared_of x) ≡ get shared_cmp old (shared_of x) =
        now (shared_of x) ∙ ap (λ b. cond b (Some after) (get shared_cmp old (shared_of x))) e in (
          (λ h. inl (subst (IsAmong x.day) stays h)),
          (λ h. elim h [
            | inl a ↦ subst (IsAmong x.day) (sym stays) a
            | inr m ↦
                let same : key_of group ≡ shared_of x = on_key group x m in
                let ties : is_eq (shared_cmp (key_of group) (key_of group)) ≡ true =
                ap is_eq (tied_itself shared_total (key_of group)) in
                let tied : is_eq (shared_cmp (key_of group) (shared_of x)) ≡ true =
                subst (λ k. is_eq (shared_cmp (key_of group) k) ≡ true) same ties in
                cc
          ]),
        )

-- days that were there get more behind them
pub put_known : (group : DetailDays) (old new : BTreeMap SharedDetails (Vec ℕ Global)) (known after : Vec ℕ Global)
    → Some known ≡ get shared_cmp old (key_of group) → WritesThrough shared_cmp (shared_cmp (key_of group)) old after new
    → after.items ≡ known.items ++ group.days.items
    → (x : Detail) → HasDetail shared_cmp new x ↔ (HasDetail shared_cmp old x ⊎ Member x (details_on group))
put_known group old new known after was writes more =
    put_in group old new (Some known) after (sym was) (writes.3 (ap is_some (sym was))).0
    (λ day. (
      (λ m. member_append day known.items group.days.items (subst (Member day) more m)),
      (λ m. subst (Member day) (sym more) (elim m [
        | inl a ↦ append_left day known.items group.days.items a
        | inr b ↦ append_right day known.items group.days.items b
      ])),
    ))

-- days of a key that had none
pub put_new : (group : DetailDays) (old new : BTreeMap SharedDetails (Vec ℕ Global)) → None ≡ get shared_cmp old (key_of group)
    → ((q : SharedDetails) → get shared_cmp new q ≡ cond (is_eq (shared_cmp (key_of group) q)) (Some group.days) (get shared_cmp old q))
    → (x : Detail) → HasDetail shared_cmp new x ↔ (HasDetail shared_cmp old x ⊎ Member x (details_on group))
put_new group old new was now =
    put_in group old new None group.days (sym was) now (λ day. ((λ m. inr m), (λ m. elim m [ inl a ↦ absurd a | inr b ↦ b ])))

-- nothing is there at the start
pub none_together : (m : BTreeMap SharedDetails (Vec ℕ Global)) → m.entries ≡ [] → (x : Detail)
    → HasDetail shared_cmp m x ↔ Member x (details_of [])
none_together m e x = ((λ h. subst (λ es. IsAmong x.day (lookup (is_at (shared_cmp (shared_of x))) es)) e h), (λ h. absurd h))

-- one group more
pub more_together : (old new : BTreeMap SharedDetails (Vec ℕ Global)) (groups : List DetailDays) (group : DetailDays)
    → ((x : Detail) → HasDetail shared_cmp old x ↔ Member x (details_of groups))
    → ((x : Detail) → HasDetail shared_cmp new x ↔ (HasDetail shared_cmp old x ⊎ Member x (details_on group)))
    → (x : Detail) → HasDetail shared_cmp new x ↔ Member x (details_of (groups ++ group ∷ []))
more_together old new groups group before now x =
    let all : details_of groups ++ details_on group ≡ details_of (groups ++ group ∷ []) = flat_map_more details_on [] groups group in (
      (λ h. subst (Member x) all (elim ((now x).0 h) [
        | inl a ↦ append_left x (details_of groups) (details_on group) ((before x).0 a)
        | inr b ↦ append_right x (details_of groups) (details_on group) b
      ])),
      (λ m. (now x).1 (elim (member_append x (details_of groups) (details_on group) (subst (Member x) (sym all) m)) [
        | inl a ↦ inl ((before x).1 a)
        | inr b ↦ inr b
      ])),
    )

-- ---- days that are asked for

abbrev pub Entry : Type 0
Entry = SharedDetails × Vec ℕ Global

abbrev pub group_of : Entry → DetailDays
group_of e = record { stream = e.0.stream; moment = e.0.moment; details = e.0.details; days = e.1 }

-- all details of entries
abbrev pub said_by : List Entry → List Detail
said_by es = details_of (map group_of es)

-- whose entry says them
said_in : (es : List Entry) (x : Detail) → Member x (said_by es) → (e : Entry) × Member e es × Member x (details_on (group_of e))
said_in es x m =
    let g = in_flat details_on (map group_of es) x m in
    let e = in_map group_of es g.0 g.1 in
    (e.0, e.1, subst (λ d. Member x (details_on d)) e.2 g.2)

in_said : (es : List Entry) (e : Entry) (x : Detail) → Member e es → Member x (details_on (group_of e)) → Member x (said_by es)
in_said es e x m n = flat_in details_on (map group_of es) x (group_of e) (map_in group_of es e m) n

-- a map has the details that its entries say
pub entries_say : (m : BTreeMap SharedDetails (Vec ℕ Global)) → IsOrdered shared_cmp m → (x : Detail)
    → HasDetail shared_cmp m x ↔ Member x (said_by m.entries)
entries_say m ordered x = (
  (λ h. found (get shared_cmp m (shared_of x)) refl h),
  (λ n.
      let s = said_in m.entries x n in
      let e = s.0 in
      let p = member_place e m.entries s.1 in
      let has : get shared_cmp m e.0 ≡ Some e.1 = btree_map_get_place shared_total m p.0 e.0 e.1 ordered p.1 in
      let same : e.0 ≡ shared_of x = on_key (group_of e) x s.2 in
      subst (IsAmong x.day) (sym (subst (λ k. get shared_cmp m k ≡ Some e.1) same has)) (to_day (group_of e) x s.2)),
)
  where
    found : (days : Option (Vec ℕ Global)) → get shared_cmp m (shared_of x) ≡ days → IsAmong x.day days → Member x (said_by m.entries)
    found None e h = absurd h
    found (Some days) e h =
        let r = place_from_lookup (is_at (shared_cmp (shared_of x))) m.entries days e in
        let same : shared_of x ≡ r.1 = shared_one (shared_of x) r.1 r.3 in
        in_said m.entries (r.1, days) x (place_member (r.1, days) m.entries r.0 r.2) (of_day (group_of (r.1, days)) x (sym same) h)

-- The answers so far: of the entries that were asked for just the details that aren't kept.
pub record AreAnswered (w : World) (done : List Entry) (new : List DetailDays) : Type 0 where
  pub each : (x : Detail) → Member x (details_of new) ↔ (Member x (said_by done) × (DetailIs x ∈ w → ⊥))
  pub apart : Apart (keys_of done) → Apart (details_of new)

pub none_answered : (w : World) (new : List DetailDays) → new ≡ [] → AreAnswered w [] new
none_answered w new e = record {
  each = λ x. ((λ m. absurd (subst (λ n. Member x (details_of n)) e m)), (λ p. absurd p.0));
  apart = λ a. subst (λ n. Apart (details_of n)) (sym e) tt;
}

ascending_apart : (days : List ℕ) → Ascends days → Apart days
ascending_apart [] up = tt
ascending_apart (day ∷ days) up = (
  (λ m. let later = up.0 day m in absurd (omega (arith, later))),
  ascending_apart days up.1,
)

-- details of different days are different
days_apart : (group : DetailDays) (days : List ℕ) → Apart days → Apart (map (detail_on group) days)
days_apart group [] a = tt
days_apart group (day ∷ days) a = (
  (λ m.
      let r = in_map (detail_on group) days (detail_on group day) m in
      a.0 (subst (λ d. Member d days) (sym (ap (λ (d : Detail). d.day) r.2)) r.1)),
  days_apart group days a.1,
)

-- one entry more is asked for
more_answered : (w : World) (done : List Entry) (e : Entry) (days : List ℕ) (old new : List DetailDays)
    → AreAnswered w done old → AreDaysWithout w (group_of e) days
    → details_of new ≡ details_of old ++ map (detail_on (group_of e)) days → AreAnswered w (done ++ e ∷ []) new
more_answered w done e days old new i are more =
    let here = map (detail_on (group_of e)) days in
    let said : said_by done ++ details_on (group_of e) ≡ said_by (done ++ e ∷ []) =
    flat_map_more details_on [] (map group_of done) (group_of e) ∙ ap details_of (sym (map-append group_of done (e ∷ []))) in record {
      each = λ x. (
        (λ m. elim (member_append x (details_of old) here (subst (Member x) more m)) [
          | inl a ↦
              let p = (i.each x).0 a in
              (subst (Member x) said (append_left x (said_by done) (details_on (group_of e)) p.0), p.1)
          | inr b ↦
              let r = in_map (detail_on (group_of e)) days x b in
              let p = (are.each r.0).0 r.1 in
              let of_entry : Member x (details_on (group_of e)) =
              subst (λ d. Member d (details_on (group_of e))) (sym r.2) (map_in (detail_on (group_of e)) e.1.items r.0 p.0) in (
                subst (Member x) said (append_right x (said_by done) (details_on (group_of e)) of_entry),
                (λ h. p.1 (subst (λ d. DetailIs d ∈ w) r.2 h)),
              )
        ]),
        (λ p. subst (Member x) (sym more)
            (elim (member_append x (said_by done) (details_on (group_of e)) (subst (Member x) (sym said) p.0)) [
              | inl a ↦ append_left x (details_of old) here ((i.each x).1 (a, p.1))
              | inr b ↦
                  let r = in_map (detail_on (group_of e)) e.1.items x b in
                  let fresh = (are.each r.0).1 (r.1, (λ h. p.1 (subst (λ d. DetailIs d ∈ w) (sym r.2) h))) in
                  append_right x (details_of old) here
                  (subst (λ d. Member d here) (sym r.2) (map_in (detail_on (group_of e)) days r.0 fresh))
            ])),
      );
      apart = λ a.
          let p = apart_parts (keys_of done) (e.0 ∷ []) (subst Apart (map-append (λ (x : Entry). x.0) done (e ∷ [])) a) in
          subst Apart (sym more)
          (apart_append (details_of old) here (i.apart p.0)
          (days_apart (group_of e) days (ascending_apart days (ascends days are.ascending))) (λ x m n.
          let s = said_in done x ((i.each x).0 m).0 in
          let r = in_map (detail_on (group_of e)) days x n in
          let same : s.0.0 ≡ e.0 = on_key (group_of s.0) x s.2 ∙ ap shared_of r.2 in
          p.2 e.0 (subst (λ key. Member key (keys_of done)) same (map_in (λ (x : Entry). x.0) done s.0 s.1)) (inl refl)));
    }

-- with days that are new
pub push_answered : (w : World) (done : List Entry) (e : Entry) (fresh : Vec ℕ Global) (old new : List DetailDays)
    → AreAnswered w done old → AreDaysWithout w (group_of e) fresh.items
    → new ≡ old ++ record (group_of e) { days = fresh } ∷ [] → AreAnswered w (done ++ e ∷ []) new
push_answered w done e fresh old new i are more =
    more_answered w done e fresh.items old new i are
    (ap details_of more ∙ sym (flat_map_more details_on [] old (record (group_of e) { days = fresh })))

-- with none
pub pass_answered : (w : World) (done : List Entry) (e : Entry) (days : List ℕ) (new : List DetailDays) → AreAnswered w done new
    → AreDaysWithout w (group_of e) days → days ≡ [] → AreAnswered w (done ++ e ∷ []) new
pass_answered w done e days new i are none =
    more_answered w done e days new new i are
    (sym (append-nil (details_of new)) ∙ ap (λ l. details_of new ++ map (detail_on (group_of e)) l) (sym none))

-- all entries of a map are asked for
pub all_answered : (w : World) (m : BTreeMap SharedDetails (Vec ℕ Global)) (done : List Entry) (new : List DetailDays)
    → IsOrdered shared_cmp m → done ≡ m.entries → AreAnswered w done new
    → (x : Detail) → Member x (details_of new) ↔ (HasDetail shared_cmp m x × (DetailIs x ∈ w → ⊥))
all_answered w m done new ordered all i x =
    let says = entries_say m ordered x in (
      (λ h. let p = (i.each x).0 h in (says.1 (subst (λ es. Member x (said_by es)) all p.0), p.1)),
      (λ p. (i.each x).1 (subst (λ es. Member x (said_by es)) (sym all) (says.0 p.0), p.1)),
    )

pub apart_answered : (w : World) (m : BTreeMap SharedDetails (Vec ℕ Global)) (done : List Entry) (new : List DetailDays)
    → IsOrdered shared_cmp m → done ≡ m.entries → AreAnswered w done new → Apart (details_of new)
apart_answered w m done new ordered all i =
    i.apart (subst (λ es. Apart (keys_of es)) (sym all) (sorted_apart shared_total (keys_of m.entries) ordered))

-- what is together is what was stated
pub new_as : (w : World) (m : BTreeMap SharedDetails (Vec ℕ Global)) (stated new : List DetailDays) (x : Detail)
    → HasDetail shared_cmp m x ↔ Member x (details_of stated)
    → Member x (details_of new) ↔ (HasDetail shared_cmp m x × (DetailIs x ∈ w → ⊥))
    → Member x (details_of new) ↔ (Member x (details_of stated) × (DetailIs x ∈ w → ⊥))
new_as w m stated new x has each = (
  (λ h. let p = each.0 h in (has.0 p.0, p.1)),
  (λ p. each.1 (has.1 p.0, p.1)),
)
