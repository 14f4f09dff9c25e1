use Rattle.std.proofs.Common.{◌≡◌, ◌∙◌, ℕ, List, [], ◌∷◌, ◌++◌, Option, Some, None, ap, sym, refl}
use Rattle.std.proofs.lemmas.Result.{err_from_is_err_and}
use Rattle.std.specs.List.{flat_map}
use Rattle.mds_terms.specs.BorrowedTexts.{details_in}
use Rattle.mds_records.specs.declared.nmi_data_details.NmiDataDetailsRecord.{NmiDataDetailsRecord}
use Rattle.mds_statements.specs.Delivered.{block_statements, day_statements, header_value, stream_of}
use Rattle.mds_statements.specs.Statements.{Statement}
use Rattle.mds_statements.specs.Statements.Statement.{HeaderOf, StreamOf}
use Rattle.mds_statements.specs.declared.blocks.Block.{Block}
use Rattle.mds_statements.specs.declared.blocks.Header.{Header}
use Rattle.mds_nem12.specs.BuilderSteps.{AreStated, stated}
use Rattle.mds_nem12.specs.Told.{header_moment, stream_said}
use Rattle.mds_nem12.proofs.Lasts.{flat_map_push}
use Rattle.mds_nem12.proofs.delivery.DeliveryBuilderStatementSink.details.Goals as goal

-- a block without days that has the terms of a 200
pub record IsBegun (line : ℕ) (r : NmiDataDetailsRecord) (block : Block) : Type 0 where
  pub line_is : block.line ≡ line
  pub stream : block.stream ≡ r.stream
  pub length : block.length ≡ r.length
  pub unit : block.unit ≡ r.unit
  pub details : block.details ≡ details_in r.details
  pub days : block.days.items ≡ []

block_said : (line moment : ℕ) (r : NmiDataDetailsRecord) (block : Block) → IsBegun line r block
    → block_statements moment block ≡ StreamOf (stream_said line moment r) ∷ []
block_said line moment r block is =
    let same : stream_of moment block ≡ stream_said line moment r = rw (is.line_is, is.stream, is.length, is.unit, is.details) refl in
    ap (λ days. StreamOf (stream_of moment block) ∷ flat_map (day_statements moment block) days) is.days ∙ ap (λ s. StreamOf s ∷ []) same

-- what the blocks state when such a block is added
block_told : (header : Option Header) (blocks new : List Block) (done : List Statement) (line moment : ℕ) (r : NmiDataDetailsRecord) (block : Block)
    → IsBegun line r block → AreStated header blocks done → header_moment done ≡ Some moment → new ≡ blocks ++ block ∷ []
    → AreStated header new (done ++ StreamOf (stream_said line moment r) ∷ [])
block_told None blocks new done line moment r block is told headed grown =
    let none : None ≡ Some moment = ap header_moment (sym told.1) ∙ headed in absurd (cc)
block_told (Some header) blocks new done line moment r block is told headed grown =
    let found : Some header.moment ≡ Some moment = ap header_moment told ∙ headed in
    let same : header.moment ≡ moment = cc in
    ap (stated header) grown
    ∙ ap (λ t. HeaderOf (header_value header) ∷ t) (flat_map_push (block_statements header.moment) blocks block)
    ∙ ap (λ m. HeaderOf (header_value header) ∷ flat_map (block_statements header.moment) blocks ++ block_statements m block) same
    ∙ ap (λ t. HeaderOf (header_value header) ∷ flat_map (block_statements header.moment) blocks ++ t) (block_said line moment r block is)
    ∙ ap (λ t. t ++ StreamOf (stream_said line moment r) ∷ []) told

pub returns-in_err-to_details : goal.returns-in_err-to_details
returns-in_err-to_details c done told headed = let p = err_from_is_err_and c.from_residual.result c.from_residual.ensures.1 in rw p.1 tt

pub returns-in_err-push : goal.returns-in_err-push
returns-in_err-push c done told headed =
    let p = err_from_is_err_and c.from_residual-in_err-push.result c.from_residual-in_err-push.ensures.1 in rw p.1 tt

pub returns : goal.returns
returns c done told headed =
    block_told c.args.self.now.header c.args.self.now.blocks.items c.push.new.self.items done c.args.line _ c.args.details.now _
    (record { line_is = refl; stream = refl; length = refl; unit = refl; details = c.in_ok-to_details.ensures.value; days = c.new.ensures.items })
    told headed c.in_ok-push.ensures.items
