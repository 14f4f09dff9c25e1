use Rattle.mds_http.proofs.Served.{one_served}
use Rattle.mds_http.proofs.connections.serve_accepted.Goals as goal

pub returns : goal.returns
returns g c = one_served _ _ _ _ _ _ _ _ _ _ _ c.serve_connection-status.ensures.serves
