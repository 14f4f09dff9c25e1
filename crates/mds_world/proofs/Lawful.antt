-- Worlds that agree, are closed or are lawful, by what they are made of.
use Rattle.std.specs.Prelude.{ℕ, List}
use Rattle.std.proofs.Common.{inl, inr}
use Rattle.mds_names.specs.declared.stream.Stream.{Stream}
use Rattle.mds_marks.specs.Reading.{ReadingValue}
use Rattle.mds_world.specs.declared.facts.Detail.{Detail}
use Rattle.mds_world.specs.declared.facts.Head.{Head}
use Rattle.mds_world.specs.declared.facts.Key.{Key}
use Rattle.mds_world.specs.Facts.{Fact, JobContent}
use Rattle.mds_world.specs.Facts.Fact.{HeadIs, VersionIs, DetailIs, PeriodIs, JobIs}
use Rattle.mds_world.proofs.Members.{in_union, union_left, union_right}
use Rattle.mds_world.specs.Sets.{◌∈◌}
use Rattle.mds_world.specs.World.{Agrees, HasHead, HasVersion, IsClosed, IsKnownDay, IsLawful, World, head_over, key_under, union}

-- Each rule is of two facts. So a World agrees where any two of its facts lie in one that does.
pub pairs_agree : (w : World)
    → ((f g : Fact) → f ∈ w → g ∈ w → (v : World) × Agrees v × (f ∈ v) × (g ∈ v)) → Agrees w
pairs_agree w both = record {
  one_length = λ a b h k. let v = both (HeadIs a) (HeadIs b) h k in v.1.one_length a b v.2 v.3;
  one_unit = λ a b h k. let v = both (HeadIs a) (HeadIs b) h k in v.1.one_unit a b v.2 v.3;
  one_reading = λ key a b h k. let v = both (VersionIs key a) (VersionIs key b) h k in v.1.one_reading key a b v.2 v.3;
  one_content = λ key a b h k. let v = both (PeriodIs key a) (PeriodIs key b) h k in v.1.one_content key a b v.2 v.3;
}

pub agrees_within : (w part : World) → ((f : Fact) → f ∈ part → f ∈ w) → Agrees w → Agrees part
agrees_within w part more agrees = pairs_agree part (λ f g h k. (w, agrees, more f h, more g k))

-- what a version, a head or details need is there in a larger World too
pub wider_head : (w v : World) → ((f : Fact) → f ∈ w → f ∈ v) → (key : Key) → HasHead w key → HasHead v key
wider_head w v more key h = (h.0, more (HeadIs (head_over key h.0)) h.1, h.2, h.3)

pub wider_version : (w v : World) → ((f : Fact) → f ∈ w → f ∈ v) → (head : Head) → HasVersion w head → HasVersion v head
wider_version w v more head h = (h.0, h.1, more (VersionIs (key_under head h.0) h.1) h.2)

pub wider_day : (w v : World) → ((f : Fact) → f ∈ w → f ∈ v) → (stream : Stream) (day : ℕ) → IsKnownDay w stream day
    → IsKnownDay v stream day
wider_day w v more stream day h = (h.0, more (HeadIs h.0) h.1, h.2, h.3)

pub union_closed : (a b : World) → IsClosed a → IsClosed b → IsClosed (union a b)
union_closed a b x y = record {
  headed = λ key reading h. elim (in_union a b (VersionIs key reading) h) [
    | inl p ↦ wider_head a (union a b) (union_left a b) key (x.headed key reading p)
    | inr q ↦ wider_head b (union a b) (union_right a b) key (y.headed key reading q)
  ];
  versioned = λ head h. elim (in_union a b (HeadIs head) h) [
    | inl p ↦ wider_version a (union a b) (union_left a b) head (x.versioned head p)
    | inr q ↦ wider_version b (union a b) (union_right a b) head (y.versioned head q)
  ];
  detailed = λ detail h. elim (in_union a b (DetailIs detail) h) [
    | inl p ↦ wider_day a (union a b) (union_left a b) detail.stream detail.day (x.detailed detail p)
    | inr q ↦ wider_day b (union a b) (union_right a b) detail.stream detail.day (y.detailed detail q)
  ];
}

-- facts without a day's need nothing
pub closed_without : (s : World) → ((key : Key) (reading : ReadingValue) → VersionIs key reading ∈ s → ⊥)
    → ((head : Head) → HeadIs head ∈ s → ⊥) → ((detail : Detail) → DetailIs detail ∈ s → ⊥) → IsClosed s
closed_without s no_version no_head no_detail = record {
  headed = λ key reading h. absurd (no_version key reading h);
  versioned = λ head h. absurd (no_head head h);
  detailed = λ detail h. absurd (no_detail detail h);
}

-- a lawful World stays so with closed facts that agree with it, among which there is no job
pub union_lawful : (w s : World) → IsLawful w → IsClosed s
    → ((id : List ℕ) (content : JobContent) (n : ℕ) → JobIs id content n ∈ s → ⊥)
    → Agrees (union w s) → IsLawful (union w s)
union_lawful w s lawful closed no_job agrees = record {
  agrees = agrees;
  one_job = λ id a b m n h k. lawful.one_job id a b m n (was id a m h) (was id b n k);
  closed = union_closed w s lawful.closed closed;
}
  where
    was : (id : List ℕ) (content : JobContent) (n : ℕ) → JobIs id content n ∈ union w s → JobIs id content n ∈ w
    was id content n h = elim (in_union w s (JobIs id content n) h) [ inl a ↦ a | inr b ↦ absurd (no_job id content n b) ]
