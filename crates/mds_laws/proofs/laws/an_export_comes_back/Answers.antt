use Rattle.mds_laws.proofs.Returned.{returns_to_an_empty_store, returns_to_its_store}
use Rattle.mds_laws.proofs.laws.an_export_comes_back.Goals as goal

pub returns-clause-empty : goal.returns-clause-empty
returns-clause-empty c = returns_to_an_empty_store

pub returns-clause-home : goal.returns-clause-home
returns-clause-home c = returns_to_its_store
