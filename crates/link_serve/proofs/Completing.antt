-- A link that nothing stops is served until its client hangs up.
use Rattle.std.proofs.Common.{◌≡◌, ℕ, Bool, true, false, not, List, [], ◌∷◌, ◌++◌, Option, Some, None, IfSome, refl, ap, sym, ◌∙◌, append_assoc, append-nil, subst, ◌⊎◌, inl, inr}
use Rattle.std.specs.Option.{option_map}
use Rattle.login_base.specs.declared.ids.ConnId.{ConnId}
use Rattle.login_base.specs.declared.ids.Uid.{Uid}
use Rattle.login_edge.specs.Exchanges.{Exchange, heard_of}
use Rattle.login_model.specs.Legal.{events_of}
use Rattle.login_model.specs.Reading.{is_granted}
use Rattle.login_model.specs.declared.fullness.Fullness.{Fullness}
use Rattle.login_model.specs.declared.event.Event.{Event}
use Rattle.login_model.specs.declared.mark.Entry.{Entry}
use Rattle.login_model.specs.declared.rule.Verdict.{Verdict}
use Rattle.login_model.specs.declared.setup.Setup.{Setup}
use Rattle.desk.specs.History.{entries}
use Rattle.desk.specs.declared.view.View.{View}
use Rattle.login_office.specs.Links.{end_heard, is_begun}
use Rattle.login_office.specs.declared.end.LinkEnd.{LinkEnd}
use Rattle.login_office.specs.declared.end.LinkEnd.TheVariants as end
use Rattle.login_office.specs.declared.end.Unbegun.TheVariants.{Refused, HungUp}
use Rattle.login_office.proofs.Histories.{ended_for_good}
use Rattle.link_serve.specs.Owners.{events_heard, was_denied}
use Rattle.link_serve.specs.Serving.{Came, Causes, FaultsAt, NothingStops, Served, ServedBy, ServesOn, is_hang_up}
use Rattle.link_serve.proofs.BytesGrow.{events-grow}

-- what was heard is a front of what was to come
left-behind : (has : Option (List ℕ)) (text bytes : List ℕ) → Some bytes ≡ option_map (λ (r : List ℕ). text ++ r) has → (rest : List ℕ) × (has ≡ Some rest) × (bytes ≡ text ++ rest)
left-behind None text bytes e = absurd (let k : ⊥ = cc in k)
left-behind (Some rest) text bytes e = (rest, refl, let k : bytes ≡ text ++ rest = cc in k)

-- bytes that show an end show it with whatever comes behind
no-end-in-front : (c : ConnId) (u : Uid) (guid text rest : List ℕ) (x : LinkEnd) → end_heard u guid text ≡ Some x → end_heard u guid (text ++ rest) ≡ None → ⊥
no-end-in-front c u guid text rest x is none = let k : Some x ≡ None = sym is ∙ (sym (ended_for_good c u guid text rest x is).end ∙ none) in cc

module _ (U : Setup) (c : ConnId) (u : Uid) (J mine : List Entry) (old new : Option (List Exchange)) (had has : Option (List ℕ)) (before now : ℕ) where
  nothing-stops : (e : LinkEnd) → ServedBy U c u J mine old new had has before now e → NothingStops U c u J mine had before now → (e ≡ end.Closed) ⊎ (e ≡ end.NoMemory)
  nothing-stops e s n = by e s.cause s.faults s.emptied
    where
      text : List ℕ
      text = heard_of s.talk

      behind : (rest : List ℕ) × (has ≡ Some rest) × (n.bytes ≡ text ++ rest)
      behind = left-behind has text n.bytes (sym n.had_is ∙ s.came)

      shows-none : (x : LinkEnd) → end_heard u U.guid text ≡ Some x → ⊥
      shows-none x is = no-end-in-front c u U.guid text behind.0 x is (ap (end_heard u U.guid) (sym behind.2) ∙ n.well_formed)

      by : (e : LinkEnd) → Causes U c u J s.own text e → FaultsAt e before now → (is_hang_up e ≡ true → IfSome has (λ (rest : List ℕ). rest ≡ [])) → (e ≡ end.Closed) ⊎ (e ≡ end.NoMemory)
      by end.Closed cause faults emptied = inl refl
      by (end.NotBegun (Refused why)) cause faults emptied = absurd (shows-none (end.NotBegun (Refused why)) cause)
      by (end.NotBegun HungUp) cause faults emptied =
          let none : behind.0 ≡ [] = subst (λ (o : Option (List ℕ)). IfSome o (λ (rest : List ℕ). rest ≡ [])) behind.1 (emptied refl) in
          let all : n.bytes ≡ text = behind.2 ∙ (ap (λ (z : List ℕ). text ++ z) none ∙ append-nil text) in
          absurd (let k : true ≡ false = sym n.begins ∙ (ap (is_begun u U.guid) all ∙ cause.0) in cc)
      by (end.Malformed place) cause faults emptied = absurd (shows-none (end.Malformed place) cause.0)
      by end.ReadFault cause faults emptied = absurd (n.no_fault faults)
      by end.WriteFault cause faults emptied = absurd (n.no_fault faults)
      by end.NoMemory cause faults emptied = inr refl
      by (end.Full count) cause faults emptied =
          let more = events-grow c u U.guid text behind.0 in
          let all : events_heard c u U.guid n.bytes ≡ events_of s.own ++ cause.event ∷ (cause.later ++ more.0) =
          ap (events_heard c u U.guid) behind.2 ∙ (more.1 ∙ (ap (λ (z : List Event). z ++ more.0) cause.next ∙ append_assoc (events_of s.own) (cause.event ∷ cause.later) more.0)) in
          absurd (let k : None ≡ Some count = sym (n.never_full (events_of s.own) (cause.later ++ more.0) cause.event all cause.front cause.rest cause.journal_is) ∙ cause.full_is in cc)
      by (end.Stopped m) cause faults emptied = absurd (let k : None ≡ Some m = sym n.no_stop ∙ cause in cc)
      by end.TooMany cause faults emptied =
          let first : mine ≡ cause.0 ∷ s.last = s.mine_is ∙ ap (λ (z : List Entry). z ++ s.last) cause.1 in
          absurd (let k : false ≡ true = sym n.let_in ∙ (ap was_denied first ∙ ap (λ (v : Verdict). not (is_granted v)) cause.2) in cc)

-- a link that was served is served on where nothing stops it
pub serves-on : (u : Uid) (v w : View Setup Entry) (old new : Option (List Exchange)) (had has : Option (List ℕ)) (before now : ℕ) (e : LinkEnd) → Served u v w old new had has before now e
    → ServesOn u v w had before now e
serves-on u v w old new had has before now e s U is n =
    let same : s.setup ≡ U = one (sym s.setup_is ∙ is) in
    nothing-stops U (record { 0 = v.who }) u (entries w.seen) w.mine old new had has before now e
    (subst (λ (X : Setup). ServedBy X (record { 0 = v.who }) u (entries w.seen) w.mine old new had has before now e) same s.by) n
  where
    one : {a b : Setup} → Some a ≡ Some b → a ≡ b
    one e = cc
