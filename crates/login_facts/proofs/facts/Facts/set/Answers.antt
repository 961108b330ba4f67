use Rattle.std.proofs.Common.{◌≡◌, ◌≤◌, ◌+◌, ◌∙◌, ◌∷◌, ℕ, length, ap, sym, subst, add-one, arith, rules}
use Rattle.login_base.specs.Room.{Room}
use Rattle.login_base.specs.declared.ids.ConnId.{ConnId}
use Rattle.login_model.specs.declared.mark.Mark.TheVariants.{Set}
use Rattle.login_facts.specs.declared.owing.Owing.{Owing}
use Rattle.login_facts.specs.Dues.{AreOwed, HasRow, WasConnected}
use Rattle.login_facts.specs.Facts.{Tables, TablesStand}
use Rattle.login_facts.specs.Sums.{has_row, sum_in}
use Rattle.login_facts.proofs.DuesMoved.{behind-marks, behind-taken, due-within, kept-taken, owed-few, taken-small, taker-few, taker-within}
use Rattle.login_facts.proofs.Known.{known-set, named-there}
use Rattle.login_laws.specs.Amounts.{OfOthers, OfTaken}
use Rattle.login_facts.proofs.TakerRows.{gained-row, taker-room, takers-behind, takers-few}
use Rattle.login_facts.proofs.Welcomed.{each-due, rows-behind, rows-few, welcome-room}
use Rattle.login_facts.proofs.Standing.{closed, opened, owing-of, tables-same}
use Rattle.login_facts.proofs.facts.Facts.set.Goals as goal

pub of-lost-requires : goal.of-lost-requires
of-lost-requires c =
    let few = c.requires.few in
    let short = few.few in
    let o = owing-of c.args.self.now few.marks few.stand in
    record { few = λ s. taken-small few.marks s _ (o.taken s) (omega arith) }

pub lose-requires : goal.lose-requires
lose-requires c = λ d.
    let few = c.requires.few in
    let now = c.args.self.now in
    let o = owing-of now few.marks few.stand in
    let P : Tables → Type 0 = λ f. AreOwed f.owing few.marks in
    let inside = subst P (sym c.self.view_is) o in
    due-within c.self.inside.owing c.args.key c.fact-before.result.now c.args.fact few.marks c.by-touched.result d _ inside c.by-touched.ensures (c.fact-before.ensures few.marks few.stand)
    (c.of-lost.ensures.dues few.marks (opened now few.marks few.stand) o.taken d)

pub put_in-requires-clause-few : goal.put_in-requires-clause-few
put_in-requires-clause-few c =
    let few = c.requires.few in
    let R : Tables → Type 0 = λ f. TablesStand f few.marks in
    let stand = subst R (sym c.self.view_is) (opened c.args.self.now few.marks few.stand) in
    record { marks = few.marks; stand = tables-same _ c.lose.new.self c.self.inside.spare c.self.inside.fresh few.marks stand; few = few.few }

pub welcome-requires-clause-room : goal.welcome-requires-clause-room
welcome-requires-clause-room c =
    let few = c.requires.few in
    let now = c.args.self.now in
    let P : Tables → Type 0 = λ f. AreOwed f.owing few.marks in
    let inside = subst P (sym c.self.view_is) (owing-of now few.marks few.stand) in
    let put = ap (λ (f : Tables). f.owing) c.self-2.view_is ∙ c.put_in.ensures.owing in
    let before = c.self.invariant in
    let fresh-is = ap (λ (f : Tables). f.fresh.others) c.self.view_is in
    let lost-spare = c.lose.ensures.spare in
    let put-spare = ap (λ (w : Owing). w.marks.spare) put in
    let fits : now.fresh.others ≤ c.self-2.inside.owing.marks.spare = search rules in
    welcome-room now c.args.key few.marks c.self.inside.owing c.lose.new.self c.self-2.inside.owing c.connection_in-comer.result now.fresh (opened now few.marks few.stand) inside.rows c.lose.ensures.rows put
    c.connection_in-comer.ensures fits c.requires.fresh

pub shift-requires-clause-within : goal.shift-requires-clause-within
shift-requires-clause-within c = λ s.
    let few = c.requires.few in
    let o = owing-of c.args.self.now few.marks few.stand in
    let P : Tables → Type 0 = λ f. AreOwed f.owing few.marks in
    let inside = subst P (sym c.self.view_is) o in
    let put = ap (λ (f : Tables). f.owing) c.self-2.view_is ∙ c.put_in.ensures.owing in
    let taken = kept-taken c.self.inside.owing c.lose.new.self c.self-2.inside.owing c.welcome.new.self few.marks inside c.lose.ensures.taken put c.welcome.ensures.taken in
    taker-within c.args.key c.fact-before.result.now few.marks s c.taker_in-lost_taker.result _ c.taker_in-lost_taker.ensures (c.fact-before.ensures few.marks few.stand) (taken s)

pub shift-requires-clause-bound : goal.shift-requires-clause-bound
shift-requires-clause-bound c = λ s.
    let few = c.requires.few in
    let o = owing-of c.args.self.now few.marks few.stand in
    let P : Tables → Type 0 = λ f. AreOwed f.owing few.marks in
    let inside = subst P (sym c.self.view_is) o in
    let put = ap (λ (f : Tables). f.owing) c.self-2.view_is ∙ c.put_in.ensures.owing in
    let taken = kept-taken c.self.inside.owing c.lose.new.self c.self-2.inside.owing c.welcome.new.self few.marks inside c.lose.ensures.taken put c.welcome.ensures.taken in
    taker-few few.marks s c.taker_in-taker.result _ (taken s) few.few

pub welcome-requires-clause-taker_room : goal.welcome-requires-clause-taker_room
welcome-requires-clause-taker_room c =
    let few = c.requires.few in
    let now = c.args.self.now in
    let P : Tables → Type 0 = λ f. AreOwed f.owing few.marks in
    let inside = subst P (sym c.self.view_is) (owing-of now few.marks few.stand) in
    let put = ap (λ (f : Tables). f.owing) c.self-2.view_is ∙ c.put_in.ensures.owing in
    let before = c.self.invariant in
    let fresh-is = ap (λ (f : Tables). f.fresh.taken) c.self.view_is in
    let lost-spare = ap (λ (r : Room (ℕ × ℕ)). r.spare) c.lose.ensures.taken in
    let put-spare = ap (λ (w : Owing). w.taken.spare) put in
    let fits : now.fresh.taken ≤ c.self-2.inside.owing.taken.spare = search rules in
    taker-room now c.args.key few.marks c.self.inside.owing c.lose.new.self c.self-2.inside.owing c.taker_in_key-keyed.result now.fresh (opened now few.marks few.stand) inside.takers c.lose.ensures.taken put
    c.taker_in_key-keyed.ensures fits c.requires.fresh

pub shift-requires-clause-row : goal.shift-requires-clause-row
shift-requires-clause-row c =
    gained-row c.args.key c.args.fact c.welcome.new.self c.taker_in_key-keyed.result c.taker_in-taker.result c.taker_in_key-keyed.ensures c.taker_in-taker.ensures c.welcome.ensures.taker

pub of-gained-requires : goal.of-gained-requires
of-gained-requires c =
    let few = c.requires.few in
    let short = few.few in
    let longer : length (Set c.args.key c.args.fact ∷ few.marks) ≡ length few.marks + 1 = sym (add-one (length few.marks)) in
    let o = owing-of c.args.self.now few.marks few.stand in
    let P : Tables → Type 0 = λ f. AreOwed f.owing few.marks in
    let inside = subst P (sym c.self.view_is) o in
    let put = ap (λ (f : Tables). f.owing) c.self-2.view_is ∙ c.put_in.ensures.owing in
    let taken = kept-taken c.self.inside.owing c.lose.new.self c.self-2.inside.owing c.welcome.new.self few.marks inside c.lose.ensures.taken put c.welcome.ensures.taken in
    let behind = behind-taken c.args.key c.fact-before.result.now c.args.fact few.marks c.taker_in-lost_taker.result c.taker_in-taker.result c.welcome.new.self c.shift.new.self
    c.taker_in-lost_taker.ensures (c.fact-before.ensures few.marks few.stand) c.taker_in-taker.ensures taken c.shift.ensures.taken in
    record { few = λ s. taken-small (Set c.args.key c.args.fact ∷ few.marks) s _ (behind s) (omega arith) }

pub gain-requires-clause-bound : goal.gain-requires-clause-bound
gain-requires-clause-bound c = λ d.
    let few = c.requires.few in
    let now = c.args.self.now in
    let u = Set c.args.key c.args.fact ∷ few.marks in
    let o = owing-of now few.marks few.stand in
    let P : Tables → Type 0 = λ f. AreOwed f.owing few.marks in
    let Q : Tables → Type 0 = λ f. TablesStand f u in
    let inside = subst P (sym c.self.view_is) o in
    let before = c.fact-before.ensures few.marks few.stand in
    let put = ap (λ (f : Tables). f.owing) c.self-2.view_is ∙ c.put_in.ensures.owing in
    let taken = kept-taken c.self.inside.owing c.lose.new.self c.self-2.inside.owing c.welcome.new.self few.marks inside c.lose.ensures.taken put c.welcome.ensures.taken in
    let behind = behind-taken c.args.key c.fact-before.result.now c.args.fact few.marks c.taker_in-lost_taker.result c.taker_in-taker.result c.welcome.new.self c.shift.new.self c.taker_in-lost_taker.ensures before c.taker_in-taker.ensures taken c.shift.ensures.taken in
    let R : Tables → Type 0 = λ f. TablesStand f few.marks in
    let stand = subst R (sym c.self.view_is) (opened now few.marks few.stand) in
    let tables = subst Q (sym c.self-2.view_is) (c.put_in.ensures.stands few.marks (tables-same _ c.lose.new.self c.self.inside.spare c.self.inside.fresh few.marks stand)) in
    let gained = c.of-gained.ensures.dues u (tables-same _ c.shift.new.self c.self-2.inside.spare c.self-2.inside.fresh u tables) behind d in
    let all = behind-marks c.args.key c.fact-before.result.now c.args.fact few.marks c.by-touched.result c.self.inside.owing c.lose.new.self c.self-2.inside.owing c.shift.new.self d _ _
    c.by-touched.ensures before inside (c.lose.ensures.marks d) (c.of-lost.ensures.dues few.marks (opened now few.marks few.stand) o.taken d) put (ap (λ (r : Room (ℕ × ℕ)). sum_in r.items d.0) c.shift.ensures.marks ∙ c.welcome.ensures.marks d.0) gained in
    let most = owed-few c.args.key c.args.fact few.marks d few.few in
    omega arith

pub gain-requires-clause-rows : goal.gain-requires-clause-rows
gain-requires-clause-rows c =
    let few = c.requires.few in
    let now = c.args.self.now in
    let u = Set c.args.key c.args.fact ∷ few.marks in
    let o = owing-of now few.marks few.stand in
    let P : Tables → Type 0 = λ f. AreOwed f.owing few.marks in
    let Q : Tables → Type 0 = λ f. TablesStand f u in
    let R : Tables → Type 0 = λ f. TablesStand f few.marks in
    let inside = subst P (sym c.self.view_is) o in
    let put = ap (λ (f : Tables). f.owing) c.self-2.view_is ∙ c.put_in.ensures.owing in
    let stand = subst R (sym c.self.view_is) (opened now few.marks few.stand) in
    let tables = subst Q (sym c.self-2.view_is) (c.put_in.ensures.stands few.marks (tables-same _ c.lose.new.self c.self.inside.spare c.self.inside.fresh few.marks stand)) in
    let known = known-set c.args.key c.args.fact few.marks (named-there now few.marks c.args.fact (opened now few.marks few.stand) c.requires.known) o.known in
    let rows = rows-behind c.args.key c.args.fact few.marks c.self.inside.owing c.lose.new.self c.self-2.inside.owing c.welcome.new.self c.shift.new.self c.connection_in-comer.result
    inside.rows c.lose.ensures.rows put c.connection_in-comer.ensures c.welcome.ensures.row c.welcome.ensures.rows c.shift.ensures.marks in
    each-due (WasConnected u) (HasRow c.shift.new.self) rows c.of-gained.result (c.of-gained.ensures.known u (tables-same _ c.shift.new.self c.self-2.inside.spare c.self-2.inside.fresh u tables) known)

pub invariant_of-self-3 : goal.invariant_of-self-3
invariant_of-self-3 c =
    let few = c.requires.few in
    let now = c.args.self.now in
    let P : Tables → Type 0 = λ f. AreOwed f.owing few.marks in
    let R : Tables → Type 0 = λ f. TablesStand f few.marks in
    let inside = subst P (sym c.self.view_is) (owing-of now few.marks few.stand) in
    let put = ap (λ (f : Tables). f.owing) c.self-2.view_is ∙ c.put_in.ensures.owing in
    let stand = subst R (sym c.self.view_is) (opened now few.marks few.stand) in
    let rows = rows-few _ c.args.key few.marks c.self.inside.owing c.lose.new.self c.self-2.inside.owing c.connection_in-comer.result stand inside.rows c.lose.ensures.rows put c.connection_in-comer.ensures in
    let fresh = c.put_in.ensures.fresh in
    let fresh-is = ap (λ (f : Tables). f.fresh) c.self-2.view_is in
    let put-spare = ap (λ (w : Owing). w.marks.spare) put in
    let takers = takers-few _ c.args.key few.marks c.self.inside.owing c.lose.new.self c.self-2.inside.owing c.taker_in_key-keyed.result stand inside.takers c.lose.ensures.taken put c.taker_in_key-keyed.ensures in
    let lost-spare = ap (λ (r : Room (ℕ × ℕ)). r.spare) c.lose.ensures.taken in
    let put-taken = ap (λ (w : Owing). w.taken.spare) put in
    let gained-spare = ap (λ (r : Room (ℕ × ℕ)). r.spare) c.gain.ensures.taken in
    let taken-left = fresh OfTaken in
    let others-left = fresh OfOthers in
    let shifted = ap (λ (r : Room (ℕ × ℕ)). r.spare) c.shift.ensures.marks in
    let before = c.self.invariant in
    let i = c.self-2.invariant in
    search rules

pub returns-clause-stands : goal.returns-clause-stands
returns-clause-stands c = λ t s.
    let now = c.args.self.now in
    let u = Set c.args.key c.args.fact ∷ t in
    let o = owing-of now t s in
    let P : Tables → Type 0 = λ f. AreOwed f.owing t in
    let Q : Tables → Type 0 = λ f. TablesStand f u in
    let R : Tables → Type 0 = λ f. TablesStand f t in
    let inside = subst P (sym c.self.view_is) o in
    let before = c.fact-before.ensures t s in
    let put = ap (λ (f : Tables). f.owing) c.self-2.view_is ∙ c.put_in.ensures.owing in
    let taken = kept-taken c.self.inside.owing c.lose.new.self c.self-2.inside.owing c.welcome.new.self t inside c.lose.ensures.taken put c.welcome.ensures.taken in
    let behind = behind-taken c.args.key c.fact-before.result.now c.args.fact t c.taker_in-lost_taker.result c.taker_in-taker.result c.welcome.new.self c.shift.new.self c.taker_in-lost_taker.ensures before c.taker_in-taker.ensures taken c.shift.ensures.taken in
    let stand = subst R (sym c.self.view_is) (opened now t s) in
    let tables = subst Q (sym c.self-2.view_is) (c.put_in.ensures.stands t (tables-same _ c.lose.new.self c.self.inside.spare c.self.inside.fresh t stand)) in
    let gained = λ (d : ConnId). c.of-gained.ensures.dues u (tables-same _ c.shift.new.self c.self-2.inside.spare c.self-2.inside.fresh u tables) behind d in
    let all = λ (d : ConnId). behind-marks c.args.key c.fact-before.result.now c.args.fact t c.by-touched.result c.self.inside.owing c.lose.new.self c.self-2.inside.owing c.shift.new.self d _ _
    c.by-touched.ensures before inside (c.lose.ensures.marks d) (c.of-lost.ensures.dues t (opened now t s) o.taken d) put (ap (λ (r : Room (ℕ × ℕ)). sum_in r.items d.0) c.shift.ensures.marks ∙ c.welcome.ensures.marks d.0) (gained d) in
    closed _ u (tables-same _ c.gain.new.self c.self-2.inside.spare c.self-2.inside.fresh u tables)
    (record {
      marks = λ d. c.gain.ensures.marks d ∙ all d;
      taken = λ r. ap (λ (w : Room (ℕ × ℕ)). sum_in w.items r.0) c.gain.ensures.taken ∙ behind r;
      known = known-set c.args.key c.args.fact t (named-there now t c.args.fact (opened now t s) c.requires.known) o.known;
      rows = λ d e. c.gain.ensures.rows d.0 (rows-behind c.args.key c.args.fact t c.self.inside.owing c.lose.new.self c.self-2.inside.owing c.welcome.new.self c.shift.new.self c.connection_in-comer.result
          inside.rows c.lose.ensures.rows put c.connection_in-comer.ensures c.welcome.ensures.row c.welcome.ensures.rows c.shift.ensures.marks d e);
      takers = λ r d e. ap (λ (w : Room (ℕ × ℕ)). has_row w.items r.0) c.gain.ensures.taken ∙ takers-behind c.args.key c.args.fact t c.self.inside.owing c.lose.new.self c.self-2.inside.owing c.welcome.new.self c.shift.new.self c.taker_in_key-keyed.result
          inside.takers c.lose.ensures.taken put c.taker_in_key-keyed.ensures c.welcome.ensures.taker c.welcome.ensures.takers c.shift.ensures.rows r d e;
    })
