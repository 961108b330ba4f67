use Rattle.login_prog.proofs.FoldersNamed.{no_options}
use Rattle.login_prog.proofs.words.served_folder.Goals as goal

pub returns-in-None : goal.returns-in-None
returns-in-None c = no_options c.args.words.now c.serve-item.result c.in-len1-up.len_at_least c.serve-item.is c.in-None.ensures
