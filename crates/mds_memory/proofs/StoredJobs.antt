-- Jobs that are kept, as a World.
use Rattle.std.proofs.Common.{◌≡◌, ◌-◌, ◌+◌, ◌<◌, ℕ, List, [], ◌∷◌, length, map, take, slice_index_or, Option, Some, None, refl, sym, ap, ◌∙◌, subst, inl, inr, arith}
use Rattle.std.specs.Prelude.{◌⊎◌}
use Rattle.std.specs.BTreeMap.{BTreeMap, IsOrdered, insert_entry, is_at}
use Rattle.std.specs.Cmp.{IsTotalOrder}
use Rattle.std.specs.Cmp.Lexicographic.{slice_cmp}
use Rattle.std.specs.FinSet as set
use Rattle.std.specs.FinSet.{nat_cmp-IsAntisymmetric, slice_cmp-IsAntisymmetric}
use Rattle.std.specs.List.{flat_map}
use Rattle.std.specs.List.Sorted.{IsStrictlySortedBy}
use Rattle.std.specs.Map.{keys_of, lookup}
use Rattle.std.specs.Ordering.{nat_cmp}
use Rattle.std.specs.declared.cmp.Ordering.TheVariants.{Equal}
use Rattle.mds_jobs.proofs.IdLemmas.{same_order}
use Rattle.mds_jobs.specs.Jobs.{content_of}
use Rattle.mds_jobs.specs.contracts.job_id.JobIdOrd.TheImpl.Laws as id_laws
use Rattle.mds_jobs.specs.declared.job.Job.{Job}
use Rattle.mds_world.specs.Facts.{Fact, JobContent}
use Rattle.mds_world.specs.Facts.Fact.{JobIs}
use Rattle.mds_world.proofs.Lists.{flat_in, in_flat, in_map, map_in}
use Rattle.mds_world.specs.Lists.{Member}
use Rattle.mds_world.proofs.Members.{in_list, in_union, list_in, same_by, union_left, union_right}
use Rattle.mds_world.specs.Sets.{◌∈◌}
use Rattle.mds_world.specs.World.{IsLawful, World, union}
use Rattle.mds_keeper.specs.Content.{job_fact}
use Rattle.mds_keeper.specs.Queries.{IsJobOf}
use Rattle.mds_memory.specs.Stored.{AreOfTheirIds, HasPlaces, id_cmp, jobs_world, kept_facts}
use Rattle.mds_memory.proofs.Entries as entries
use Rattle.mds_memory.proofs.Keys.{taken_more}

abbrev pub Jobs : Type 0
Jobs = BTreeMap (List ℕ) (Option (Job × ℕ))

abbrev pub Place : Type 0
Place = List ℕ × Option (Job × ℕ)

-- ids compare as their texts
id_order : (a b : List ℕ) → id_cmp a b ≡ slice_cmp nat_cmp a b
id_order a b = same_order (36 - length a) (36 - length b) a b (λ h. omega arith) (λ h. omega arith)

id_exact : (a b : List ℕ) → id_cmp a b ≡ Equal → a ≡ b
id_exact a b e = slice_cmp-IsAntisymmetric nat_cmp-IsAntisymmetric a b (sym (id_order a b) ∙ e)

id_total : IsTotalOrder id_cmp
id_total = id_laws.total-law

insert_here : (es : List Place) (k : List ℕ) (v : Option (Job × ℕ)) → Member (k, v) (insert_entry id_cmp es k v)
insert_here = entries.insert_here id_cmp id_exact id_total

insert_only : (es : List Place) (k : List ℕ) (v : Option (Job × ℕ)) (e : Place)
    → Member e (insert_entry id_cmp es k v) → (e ≡ (k, v)) ⊎ Member e es
insert_only = entries.insert_only id_cmp id_exact id_total

insert_other : (es : List Place) (k : List ℕ) (v : Option (Job × ℕ)) (e : Place) → Member e es
    → Member e (insert_entry id_cmp es k v) ⊎ (e.0 ≡ k)
insert_other = entries.insert_other id_cmp id_exact id_total

not_absent : (es : List Place) (k : List ℕ) (v : Option (Job × ℕ)) → Member (k, v) es
    → lookup (is_at (id_cmp k)) es ≡ None → ⊥
not_absent = entries.not_absent id_cmp id_exact id_total

found_in : (es : List Place) (k : List ℕ) (v : Option (Job × ℕ)) → lookup (is_at (id_cmp k)) es ≡ Some v
    → Member (k, v) es
found_in = entries.found_in id_cmp id_exact id_total

one_entry : (es : List Place) → IsStrictlySortedBy id_cmp (keys_of es) → (k : List ℕ) (v w : Option (Job × ℕ))
    → Member (k, v) es → Member (k, w) es → v ≡ w
one_entry = entries.one_entry id_cmp id_exact id_total

no_job : (job : Job × ℕ) → Some job ≡ None → ⊥
no_job job e = cc

own : (a b : Job × ℕ) → Some a ≡ Some b → a ≡ b
own a b e = cc

-- what a place says is of its job
of_place : (kept : Option (Job × ℕ)) (f : Fact) → Member f (kept_facts kept)
    → (job : Job × ℕ) × (kept ≡ Some job) × (f ≡ job_fact job)
of_place None f m = absurd m
of_place (Some job) f (inl e) = (job, refl, e)
of_place (Some job) f (inr z) = absurd z

-- a fact of the jobs' World is that of one of them
pub in_jobs : (jobs : Jobs) (f : Fact) → f ∈ jobs_world jobs
    → (id : List ℕ) × (job : Job × ℕ) × Member (id, Some job) jobs.entries × (f ≡ job_fact job)
in_jobs jobs f h =
    let r = in_flat (λ e. kept_facts e.1) jobs.entries f (in_list _ f h) in
    let p = of_place r.0.1 f r.2 in
    (r.0.0, p.0, subst (λ v. Member (r.0.0, v) jobs.entries) p.1 r.1, p.2)

pub jobs_in : (jobs : Jobs) (id : List ℕ) (job : Job × ℕ) → Member (id, Some job) jobs.entries
    → job_fact job ∈ jobs_world jobs
jobs_in jobs id job m =
    list_in _ (job_fact job) (flat_in (λ e. kept_facts e.1) jobs.entries (job_fact job) (id, Some job) m (inl refl))

-- ---- the job of an id

same_id : (id : List ℕ) (content : JobContent) (count : ℕ) (job : Job × ℕ) → JobIs id content count ≡ job_fact job
    → job.0.id ≡ id
same_id id content count job e = cc

pub job_found : (jobs : Jobs) (id : List ℕ) (kept : Option (Job × ℕ)) → AreOfTheirIds jobs
    → lookup (is_at (id_cmp id)) jobs.entries ≡ Some kept → IsJobOf (jobs_world jobs) id kept
job_found jobs id None t e = λ content count h.
    let r = in_jobs jobs (JobIs id content count) h in
    let here : r.0 ≡ id = sym (t.theirs r.0 r.1 r.2) ∙ same_id id content count r.1 r.3 in
    absurd (no_job r.1 (sym (one_entry jobs.entries t.ordered id None (Some r.1) (found_in jobs.entries id None e)
    (subst (λ k. Member (k, Some r.1) jobs.entries) here r.2))))
job_found jobs id (Some job) t e =
    let m = found_in jobs.entries id (Some job) e in
    let own = t.theirs id job m in
    (own, subst (λ k. JobIs k (content_of job.0) job.1 ∈ jobs_world jobs) own (jobs_in jobs id job m))

pub job_absent : (jobs : Jobs) (id : List ℕ) → AreOfTheirIds jobs
    → lookup (is_at (id_cmp id)) jobs.entries ≡ None → IsJobOf (jobs_world jobs) id None
job_absent jobs id t e = λ content count h.
    let r = in_jobs jobs (JobIs id content count) h in
    let here : r.0 ≡ id = sym (t.theirs r.0 r.1 r.2) ∙ same_id id content count r.1 r.3 in
    not_absent jobs.entries id (Some r.1) (subst (λ k. Member (k, Some r.1) jobs.entries) here r.2) e

-- ---- places for jobs

-- Places are made for jobs: what is kept stays.
pub record IsRoom (old : Jobs) (more : List (Job × ℕ)) (now : Jobs) : Type 0 where
  pub same : jobs_world now ≡ jobs_world old
  pub theirs : AreOfTheirIds old → AreOfTheirIds now
  pub room : HasPlaces now more

pub room_start : (old : Jobs) → IsRoom old [] old
room_start old = record { same = refl; theirs = λ t. t; room = λ job m. absurd m }

pub room_there : (old now : Jobs) (xs : List (Job × ℕ)) (i : ℕ) (x : Job × ℕ) (kept : Option (Job × ℕ)) → i < length xs
    → x ≡ slice_index_or xs i x → IsRoom old (take i xs) now → lookup (is_at (id_cmp x.0.id)) now.entries ≡ Some kept
    → IsRoom old (take (i + 1) xs) now
room_there old now xs i x kept l is r e = record {
  same = r.same;
  theirs = r.theirs;
  room = λ job m. elim ((taken_more xs i x l is job).0 m) [
    | inl n ↦ r.room job n
    | inr q ↦ (kept, subst (λ j. Member (j.0.id, kept) now.entries) (sym q) (found_in now.entries x.0.id kept e))
  ];
}

pub room_added : (old now new : Jobs) (xs : List (Job × ℕ)) (i : ℕ) (x : Job × ℕ) → i < length xs
    → x ≡ slice_index_or xs i x → IsRoom old (take i xs) now → lookup (is_at (id_cmp x.0.id)) now.entries ≡ None
    → new.entries ≡ insert_entry id_cmp now.entries x.0.id None → IsOrdered id_cmp new
    → IsRoom old (take (i + 1) xs) new
room_added old now new xs i x l is r none es ordered =
    let keeps : (e : Place) → Member e now.entries → Member e new.entries = λ e m.
    elim (insert_other now.entries x.0.id None e m) [
      | inl n ↦ subst (λ ks. Member e ks) (sym es) n
      | inr q ↦ absurd (not_absent now.entries x.0.id e.1 (subst (λ k. Member (k, e.1) now.entries) q m) none)
    ] in
    let only : (id : List ℕ) (job : Job × ℕ) → Member (id, Some job) new.entries → Member (id, Some job) now.entries
    = λ id job m. elim (insert_only now.entries x.0.id None (id, Some job) (subst (λ ks. Member (id, Some job) ks) es m)) [
      | inl q ↦ absurd (no_job job (ap (λ e. e.1) q))
      | inr n ↦ n
    ] in
    record {
      same = same_by _ _
          (λ f h. let d = in_jobs new f h in
          subst (λ g. g ∈ jobs_world now) (sym d.3) (jobs_in now d.0 d.1 (only d.0 d.1 d.2)))
          (λ f h. let d = in_jobs now f h in
          subst (λ g. g ∈ jobs_world new) (sym d.3) (jobs_in new d.0 d.1 (keeps (d.0, Some d.1) d.2)))
          ∙ r.same;
      theirs = λ t. record {
        theirs = λ id job m. (r.theirs t).theirs id job (only id job m);
        ordered = ordered;
      };
      room = λ job m. elim ((taken_more xs i x l is job).0 m) [
        | inl n ↦ let p = r.room job n in (p.0, keeps (job.0.id, p.0) p.1)
        | inr q ↦ (
          None,
          subst (λ j. Member (j.0.id, None) new.entries) (sym q)
              (subst (λ ks. Member (x.0.id, None) ks) (sym es) (insert_here now.entries x.0.id None)),
        )
      ];
    }

-- a call that changed nothing
pub same_world : (old now new : Jobs) → new.entries ≡ now.entries → jobs_world now ≡ jobs_world old
    → jobs_world new ≡ jobs_world old
same_world old now new e s = ap (λ es. set.from_list (flat_map (λ entry. kept_facts entry.1) es)) e ∙ s

pub same_theirs : (now new : Jobs) → new.entries ≡ now.entries → AreOfTheirIds now → AreOfTheirIds new
same_theirs now new e t = record {
  theirs = λ id job m. t.theirs id job (subst (λ es. Member (id, Some job) es) e m);
  ordered = subst (λ es. IsStrictlySortedBy id_cmp (keys_of es)) (sym e) t.ordered;
}

-- ---- jobs in their places

-- Some of the jobs are put to those that were kept: which are left, and what is kept now.
pub record ArePut (old : Jobs) (more left : List (Job × ℕ)) (now : Jobs) : Type 0 where
  pub only : (f : Fact) → f ∈ jobs_world now → f ∈ union (jobs_world old) (set.from_list (map job_fact more))
  pub kept : (f : Fact) → f ∈ jobs_world old → f ∈ jobs_world now
  pub put : (job : Job × ℕ) → Member job more → Member job left ⊎ (job_fact job ∈ jobs_world now)
  pub some : (job : Job × ℕ) → Member job left → Member job more
  pub room : HasPlaces now more
  pub theirs : AreOfTheirIds now

pub put_start : (old : Jobs) (more left : List (Job × ℕ)) → HasPlaces old more → AreOfTheirIds old → left ≡ more
    → ArePut old more left old
put_start old more left room t e = record {
  only = λ f h. union_left _ _ f h;
  kept = λ f h. h;
  put = λ job m. inl (subst (Member job) (sym e) m);
  some = λ job m. subst (Member job) e m;
  room = room;
  theirs = t;
}

-- there is a place for the next one
pub put_room : (old : Jobs) (more left rest : List (Job × ℕ)) (now : Jobs) (x : Job × ℕ) → ArePut old more left now
    → left ≡ x ∷ rest → lookup (is_at (id_cmp x.0.id)) now.entries ≡ None → ⊥
put_room old more left rest now x p l none =
    let r = p.room x (p.some x (subst (Member x) (sym l) (inl refl))) in
    not_absent now.entries x.0.id r.0 r.1 none

-- two jobs of one id, in a lawful World, say the same
one_fact : (w : World) (a b : Job × ℕ) → IsLawful w → job_fact a ∈ w → job_fact b ∈ w → a.0.id ≡ b.0.id
    → job_fact a ≡ job_fact b
one_fact w a b law x y e =
    let z : JobIs a.0.id (content_of b.0) b.1 ∈ w = subst (λ k. JobIs k (content_of b.0) b.1 ∈ w) (sym e) y in
    let same = law.one_job a.0.id (content_of a.0) (content_of b.0) a.1 b.1 x z in
    (λ i. JobIs (e i) (same.0 i) (same.1 i))

pub put_step : (old : Jobs) (more left rest : List (Job × ℕ)) (now new : Jobs) (x : Job × ℕ) → ArePut old more left now
    → IsLawful (union (jobs_world old) (set.from_list (map job_fact more))) → left ≡ x ∷ rest
    → new.entries ≡ insert_entry id_cmp now.entries x.0.id (Some x) → IsOrdered id_cmp new → ArePut old more rest new
put_step old more left rest now new x p law l es ordered =
    let w : World = union (jobs_world old) (set.from_list (map job_fact more)) in
    let m : Member x more = p.some x (subst (Member x) (sym l) (inl refl)) in
    let told : job_fact x ∈ w = union_right _ _ (job_fact x) (list_in _ (job_fact x) (map_in job_fact more x m)) in
    let here : job_fact x ∈ jobs_world new =
    jobs_in new x.0.id x (subst (λ ks. Member (x.0.id, Some x) ks) (sym es) (insert_here now.entries x.0.id (Some x))) in
    let only : (e : Place) → Member e new.entries → (e ≡ (x.0.id, Some x)) ⊎ Member e now.entries =
    λ e n. insert_only now.entries x.0.id (Some x) e (subst (λ ks. Member e ks) es n) in
    let grows : (f : Fact) → f ∈ jobs_world now → f ∈ jobs_world new = λ f h.
    let d = in_jobs now f h in
    subst (λ g. g ∈ jobs_world new) (sym d.3) (elim (insert_other now.entries x.0.id (Some x) (d.0, Some d.1) d.2) [
      | inl n ↦ jobs_in new d.0 d.1 (subst (λ ks. Member (d.0, Some d.1) ks) (sym es) n)
      | inr q ↦ subst (λ g. g ∈ jobs_world new)
          (one_fact w x d.1 law told (subst (λ g. g ∈ w) d.3 (p.only f h)) (sym (p.theirs.theirs d.0 d.1 d.2 ∙ q))) here
    ]) in
    record {
      only = λ f h. let d = in_jobs new f h in elim (only (d.0, Some d.1) d.2) [
        | inl q ↦ subst (λ g. g ∈ w) (sym (d.3 ∙ ap job_fact (own d.1 x (ap (λ e. e.1) q)))) told
        | inr n ↦ p.only f (subst (λ g. g ∈ jobs_world now) (sym d.3) (jobs_in now d.0 d.1 n))
      ];
      kept = λ f h. grows f (p.kept f h);
      put = λ job n. elim (p.put job n) [
        | inl a ↦ elim (subst (Member job) l a) [
          | inl q ↦ inr (subst (λ j. job_fact j ∈ jobs_world new) (sym q) here)
          | inr b ↦ inl b
        ]
        | inr a ↦ inr (grows (job_fact job) a)
      ];
      some = λ job n. p.some job (subst (Member job) (sym l) (inr n));
      room = λ job n.
          let r = p.room job n in
          elim (insert_other now.entries x.0.id (Some x) (job.0.id, r.0) r.1) [
            | inl a ↦ (r.0, subst (λ ks. Member (job.0.id, r.0) ks) (sym es) a)
            | inr q ↦ (
              Some x,
              subst (λ k. Member (k, Some x) new.entries) (sym q)
                  (subst (λ ks. Member (x.0.id, Some x) ks) (sym es) (insert_here now.entries x.0.id (Some x))),
            )
          ];
      theirs = record {
        theirs = λ id job n. elim (only (id, Some job) n) [
          | inl q ↦ ap (λ j. j.0.id) (own job x (ap (λ e. e.1) q)) ∙ sym (ap (λ e. e.0) q)
          | inr a ↦ p.theirs.theirs id job a
        ];
        ordered = ordered;
      };
    }

pub put_world : (old : Jobs) (more left : List (Job × ℕ)) (now : Jobs) → ArePut old more left now → left ≡ []
    → jobs_world now ≡ union (jobs_world old) (set.from_list (map job_fact more))
put_world old more left now p e = same_by _ _ p.only
    (λ f h. elim (in_union (jobs_world old) _ f h) [
      | inl a ↦ p.kept f a
      | inr a ↦ let r = in_map job_fact more f (in_list _ f a) in
          subst (λ g. g ∈ jobs_world now) (sym r.2) (elim (p.put r.0 r.1) [
            | inl n ↦ absurd (subst (Member r.0) e n)
            | inr n ↦ n
          ])
    ])
