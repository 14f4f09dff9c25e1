use Rattle.mds_answers.proofs.listed.ListedSerialize.serialize.Goals as goal

pub send_answer-requires : goal.send_answer-requires
send_answer-requires g c = c.args.self.now.list
