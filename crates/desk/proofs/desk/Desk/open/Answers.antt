use Rattle.std.proofs.Common.{rules, refl, sym, ap}
use Rattle.desk.proofs.Stepping.{opens}
use Rattle.desk.proofs.desk.Desk.open.Goals as goal

pub new-requires : goal.new-requires
new-requires g c = opens _ _ _ _ _ c.args.value c.push_reserved.new.self.items (search rules) (ap g.V.Journaled.setup (sym c.of-about.ensures)) refl c.requires
