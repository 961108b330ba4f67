use Rattle.desk.proofs.desk.Desk.split.Given as goal

abbrev pub ghosts-split_as : goal.ghosts-split_as
ghosts-split_as g a = record { who = a.who.0 }
