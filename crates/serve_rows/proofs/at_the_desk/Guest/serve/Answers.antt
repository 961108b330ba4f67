use Rattle.std.proofs.lemmas.List.{nil_from_length}
use Rattle.serve_rows.proofs.at_the_desk.Guest.serve.Goals as goal

pub serve_link-end-requires-clause-new : goal.serve_link-end-requires-clause-new
serve_link-end-requires-clause-new g c = nil_from_length _ c.args.self.new
