-- What is committed is in its place.
use Rattle.std.specs.Prelude.{◌≡◌, List, [], ◌∷◌, ◌++◌, Bool, true, false, map}
use Rattle.std.proofs.Common.{inl, inr, subst, sym}
use Rattle.mds_jobs.specs.declared.job.Job.{Job}
use Rattle.mds_keeper.specs.Content.{AreInPlace, AreOfNewDays, place_of}
use Rattle.mds_keeper.specs.declared.additions.Additions.{Additions}
use Rattle.mds_marks.specs.Reading.{ReadingValue}
use Rattle.mds_service.specs.Substitution.{head_of}
use Rattle.mds_service.specs.SubstitutionSteps.{IsPut, new_heads}
use Rattle.mds_world.proofs.Lists.{append_left, append_right}
use Rattle.mds_world.specs.Lists.{Apart, Member}
use Rattle.mds_world.specs.World.{IsKnownDay, World}
use Rattle.mds_world.specs.declared.facts.Head.{Head}

-- additions without heads and versions
pub bare_placed : (w : World) (a : Additions) → (a.new_days.items ≡ []) × (a.heads.items ≡ []) × (a.days.items ≡ []) → AreInPlace w a
bare_placed w a bare = record {
  first = record {
    new = λ head m known. absurd (subst (Member head) bare.0 m);
    once = subst (λ heads. Apart (map place_of heads)) (sym bare.0) tt;
    further = λ head m unknown. absurd (subst (Member head) bare.1 m);
  };
  days = λ day m. absurd (subst (Member day) bare.2 m);
}

-- each of a job's heads is that of the job
one_head : (job : Job) (has : Bool) (head : Head) → Member head (new_heads job has) → head ≡ head_of job
one_head job false head (inl e) = e
one_head job false head (inr m) = absurd m
one_head job true head m = absurd m

-- the front of at most one head is apart
few_front : (job : Job) (has : Bool) (front rest : List Head) → front ++ rest ≡ new_heads job has → Apart (map place_of front)
few_front job has [] rest e = tt
few_front job has (a ∷ []) rest e = ((λ m. m), tt)
few_front job true (a ∷ b ∷ more) rest e = cc
few_front job false (a ∷ b ∷ more) rest e = cc

-- the heads that a job puts
pub job_first : (w : World) (job : Job) (readings : List ReadingValue) (a : Additions) → IsPut w job readings a
    → AreOfNewDays w a.new_days.items a.heads.items
job_first w job readings a put = record {
  new = λ head m known.
      let is = one_head job put.has_head head (subst (Member head) put.heads (append_left head a.new_days.items a.heads.items m)) in
      absurd (subst (Member head) (put.known_day (subst (λ h. IsKnownDay w h.stream h.day) is known)) m);
  once = few_front job put.has_head a.new_days.items a.heads.items put.heads;
  further = λ head m unknown.
      let is = one_head job put.has_head head (subst (Member head) put.heads (append_right head a.new_days.items a.heads.items m)) in
      absurd (subst (Member head) (put.new_day (subst (λ h. IsKnownDay w h.stream h.day → ⊥) is unknown)) m);
}
