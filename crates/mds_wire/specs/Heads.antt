-- Which bytes are the head of a request (RFC 9112, sections 2 to 5), in the words of `httparse`: `ReadsRequest bytes
-- head rest` says that the bytes are this head and then the rest. The bounds are the profile's.
use Rattle.std.specs.Prelude.{ℕ, ◌<◌, ◌≤◌, ◌⊎◌, ◌==◌, List, length, filter}
use Rattle.httparse.specs.Grammar.{RequestHead, HasNoRequest, NeverHasRequest, MayBecomeRequest}
use Rattle.httparse.specs.Spans.{IsRequestAt, IsRequestWithin, RequestOverflows}
use Rattle.httparse.specs.declared.spans.HeaderSpan.{HeaderSpan}
use Rattle.httparse.specs.declared.spans.RequestSpans.{RequestSpans}

-- the most bytes of a head
abbrev pub longest_head : ℕ
longest_head = 16384

-- the most fields of a head
abbrev pub most_fields : ℕ
most_fields = 64

-- how many line feeds the bytes hold
abbrev pub line_feeds : List ℕ → ℕ
line_feeds bytes = length (filter (λ byte. byte == 10) bytes)

-- the bytes are the beginning of a head, as far as they go, and don't hold a whole one
pub record IsOpenHead (bytes : List ℕ) : Type 0 where
  pub none : HasNoRequest bytes
  pub may : MayBecomeRequest bytes

-- Whatever bytes follow, these don't begin a head of at most 64 fields. So they don't begin a head at all, or they
-- have the line feeds of more fields.
pub record IsNoHead (bytes : List ℕ) : Type 0 where
  pub none : RequestOverflows most_fields bytes
  pub why : NeverHasRequest bytes ⊎ (most_fields < line_feeds bytes)

-- the spans are those of a head with which the bytes begin
pub record IsWhole (bytes : List ℕ) (fields : List HeaderSpan) (spans : RequestSpans) : Type 0 where
  pub head : RequestHead
  pub at : IsRequestAt bytes fields spans head
  pub few : length head.fields ≤ most_fields
  pub within : IsRequestWithin bytes fields spans
