-- What is asked by a body of interval data that was fed to a reader, and when it lacks memory.
use Rattle.std.proofs.Common.{◌≡◌, ◌≢◌, ℕ, ◌≤◌, List, length, Option, None, Some, Result, Err, refl, sym, ◌∙◌, subst, arith}
use Rattle.std.specs.Prelude.{IfSome, MatchOption}
use Rattle.std.specs.Global.{Vec}
use Rattle.mds_records.specs.declared.file.FileKind.TheVariants.{Nem12}
use Rattle.mds_messages.specs.declared.request.Request.{Request}
use Rattle.mds_messages.specs.declared.request.Request.TheVariants as asked
use Rattle.mds_nem12.specs.Answers.{MayLackMemory, fault_so_far}
use Rattle.mds_nem12.specs.BuilderSteps.{IsTold}
use Rattle.mds_nem12.specs.Faults.{nem12}
use Rattle.mds_nem12.specs.FileReaderSteps.{HasTaken}
use Rattle.mds_nem12.specs.Reader.{HasRead, reader_fault}
use Rattle.mds_nem12.specs.declared.delivery.DeliveryBuilder.{DeliveryBuilder}
use Rattle.mds_nem12.specs.declared.file_reader.FileReader.{FileReader}
use Rattle.mds_walk.specs.Answers.{IsRefusal}
use Rattle.mds_walk.specs.Feeding.{HasFed, MayLackFor}
use Rattle.mds_walk.specs.declared.fault.TakeFault.{TakeFault}
use Rattle.mds_walk.specs.declared.fault.TakeFault.TheVariants.{Memory}
use Rattle.mds_walk.specs.declared.feeder.LineFeeder.{LineFeeder}
use Rattle.mds_requests.specs.Targets.{AsksAt, ImportsIntervalData}
use Rattle.mds_wire.specs.declared.route.Route.{Route}
use Rattle.mds_http.specs.Bodies.{HadMemory}

-- A vector of any bytes that a body may have, made of another. Nobody holds it.
abbrev vec_of : (v : Vec ℕ) (bytes : List ℕ) → length bytes ≤ 8_388_608 → Vec ℕ
vec_of v bytes few = record {
  ptr = v.ptr;
  len = length bytes;
  cap = length bytes;
  alloc = v.alloc;
  items = bytes;
  ok = (refl, omega arith);
  small = omega (arith, few);
}

-- the import of these bytes
abbrev pub import_of : (v : Vec ℕ) (bytes : List ℕ) → length bytes ≤ 8_388_608 → Request
import_of v bytes few = asked.Import Nem12 (vec_of v bytes few)

pub asks_for_import : (v : Vec ℕ) (route : Route) (target bytes : List ℕ) (few : length bytes ≤ 8_388_608)
    → ImportsIntervalData route target → AsksAt route target bytes (import_of v bytes few)
asks_for_import v route target bytes few it =
    subst (λ (r : Route). AsksAt r target bytes (import_of v bytes few)) (sym it.0) (Nem12, it.1, (refl, refl))

-- A reader that hadn't lacked memory before lacks it for this piece, behind a text without a fault.
pub lacks : {A : Type 0} (text piece : List ℕ) (reader next : LineFeeder (FileReader DeliveryBuilder)) (result : Result A TakeFault)
    → HasRead text reader → HadMemory reader → result ≡ Err Memory
    → IfSome (reader_fault reader) (λ found. (result ≡ Err found) × (reader_fault next ≡ Some found))
    → (reader_fault reader ≡ None → result ≡ Err Memory → MayLackFor MayLackMemory nem12 text piece)
    → (fault_so_far nem12 text ≡ None) × MayLackFor MayLackMemory nem12 text piece
lacks text piece reader next result read had is again lack = by (reader_fault reader) refl read had again
  where
    by : (found : Option TakeFault) → reader_fault reader ≡ found
        → MatchOption found (HasFed nem12 (λ file before. HasTaken IsTold before file) text reader) (IsRefusal (fault_so_far nem12 text))
        → IfSome found (λ f. f ≢ Memory) → IfSome found (λ f. (result ≡ Err f) × (reader_fault next ≡ Some f))
        → (fault_so_far nem12 text ≡ None) × MayLackFor MayLackMemory nem12 text piece
    by None none fed had again = (fed.none, lack none is)
    by (Some f) some refused had again = absurd (had (let both : Err f ≡ Err Memory = sym again.0 ∙ is in cc))
