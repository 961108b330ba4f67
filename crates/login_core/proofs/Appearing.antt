-- That what a new session brings about only adds marks, for the tactics.
use Rattle.login_laws.proofs.Widens.{take_seat-widens, appear_on-widens}

pub ruleset appearing = (take_seat-widens, appear_on-widens)
