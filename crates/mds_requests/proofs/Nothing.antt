-- Why a query for an export asks for nothing.
use Rattle.std.proofs.Common.{◌≡◌, ℕ, List, sym, ◌∙◌, ap, codes}
use Rattle.mds_arguments.specs.Arguments.{IsFirstBad, export_tests, first_bad}
use Rattle.mds_arguments.specs.declared.arguments.Argument.{Argument}
use Rattle.mds_requests.specs.Queries.{values_named}
use Rattle.mds_requests.specs.Targets.{Says, SaysExport}

-- a name has one value
says_one : (pairs : List (List ℕ × List ℕ)) (name a b : List ℕ) → Says pairs name a → Says pairs name b → a ≡ b
says_one pairs name a b p q = cc

-- the export that a query says is one
export_one : (pairs : List (List ℕ × List ℕ)) (suffixes : List (List ℕ)) (nmi from to moment sender receiver n f t m s r : List ℕ)
    → SaysExport pairs nmi from to moment sender receiver → SaysExport pairs n f t m s r → suffixes ≡ values_named (codes "suffix") pairs
    → export_tests n f t m s r (values_named (codes "suffix") pairs) ≡ export_tests nmi from to moment sender receiver suffixes
export_one pairs suffixes nmi from to moment sender receiver n f t m s r h k e =
    let a : n ≡ nmi = says_one pairs (codes "nmi") n nmi k.1 h.1 in
    let b : f ≡ from = says_one pairs (codes "from") f from k.2 h.2 in
    let c : t ≡ to = says_one pairs (codes "to") t to k.3 h.3 in
    let d : m ≡ moment = says_one pairs (codes "moment") m moment k.4 h.4 in
    let by : s ≡ sender = says_one pairs (codes "sender") s sender k.5 h.5 in
    let for : r ≡ receiver = says_one pairs (codes "receiver") r receiver k.6 h.6 in
    λ i. export_tests (a i) (b i) (c i) (d i) (by i) (for i) (sym e i)

-- one of its texts is bad
pub bad_export : (pairs : List (List ℕ × List ℕ)) (suffixes : List (List ℕ)) (nmi from to moment sender receiver : List ℕ) (argument : Argument)
    → SaysExport pairs nmi from to moment sender receiver → suffixes ≡ values_named (codes "suffix") pairs
    → IsFirstBad (export_tests nmi from to moment sender receiver suffixes) argument → (n f t m s r : List ℕ) → SaysExport pairs n f t m s r
    → IsFirstBad (export_tests n f t m s r (values_named (codes "suffix") pairs)) argument
bad_export pairs suffixes nmi from to moment sender receiver argument says e bad n f t m s r others =
    ap first_bad (export_one pairs suffixes nmi from to moment sender receiver n f t m s r says others e) ∙ bad
