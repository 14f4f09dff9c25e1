use Rattle.mds_http.proofs.Served.{none_served}
use Rattle.mds_http.proofs.connections.serve_next.Goals as goal

pub returns-in-LetGo : goal.returns-in-LetGo
returns-in-LetGo g c = none_served _ _
