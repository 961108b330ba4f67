-- The entries of what was heard are made.
use Rattle.std.proofs.Common.{◌≡◌, ℕ, ◌+◌, ◌<◌, ◌||◌, if◌then◌else◌, Bool, true, false, List, [], ◌∷◌, ◌++◌, map, length, Option, Some, None, Result, Ok, Err, refl, ap, sym, ◌∙◌, append-nil, subst, arith, length-append}
use Rattle.login_base.specs.declared.ids.ConnId.{ConnId}
use Rattle.login_base.specs.declared.ids.Uid.{Uid}
use Rattle.login_edge.specs.Exchanges.{Exchange}
use Rattle.login_model.specs.Legal.{events_of}
use Rattle.login_model.specs.declared.event.Event.{Event}
use Rattle.login_model.specs.declared.event.Event.TheVariants.{Connect, Call as Calls}
use Rattle.login_model.specs.declared.event.Request.{Request}
use Rattle.login_model.specs.declared.mark.Entry.{Entry}
use Rattle.login_model.specs.declared.setup.Setup.{Setup}
use Rattle.desk.specs.declared.view.View.{View}
use Rattle.login_office.specs.Hearing.{MayCome, TellerState}
use Rattle.login_office.specs.Links.{end_heard, is_begun}
use Rattle.login_office.specs.declared.end.LinkEnd.{LinkEnd}
use Rattle.login_office.specs.declared.teller.HeardPiece.{HeardPiece}
use Rattle.link_serve.specs.Owners.{events_heard}
use Rattle.link_serve.specs.inner.Standing.{Moment, Rests, Stands, Stops, new_events, who_of}
use Rattle.link_serve.specs.inner.Turning.{Answers, AreNext, Connected, Connects, HaveNext, IsHeard, moment}
use Rattle.link_serve.specs.declared.serving.Progress.{Progress}
use Rattle.link_serve.proofs.Resting.{ends-shown, one-setup}

-- its calls come next, behind what was made: and with them all is made
pub record CallsNext (u : Uid) (start now : Moment) (p : Progress) (heard : HeardPiece) : Type 0 where
  pub text : List ℕ
  pub made : List Event
  pub stands : Stands u start now p.teller text made made
  pub all : events_heard (who_of start) u stands.setup.guid text ≡ made ++ map Calls heard.calls
  pub end : heard.end ≡ end_heard u stands.setup.guid text
  pub open_is : p.is_open ≡ is_begun u stands.setup.guid text

module _ (u : Uid) (start old : Moment) (p : Progress) (heard : HeardPiece) (h : IsHeard u start old p heard) where
  begins-made : heard.begins ≡ true → h.made ≡ []
  begins-made b = sym h.stands.made_is ∙ ap events_of (h.first b)

  begins-stands : heard.begins ≡ true → Stands u start old p.teller h.text [] []
  begins-stands b = subst (λ (es : List Event). Stands u start old p.teller h.text es es) (begins-made b) h.stands

  -- where the client begins, the connect comes next, and then the calls
  begins-next : heard.begins ≡ true → events_heard (who_of start) u h.stands.setup.guid h.text ≡ Connect (who_of start) u ∷ map Calls heard.calls
  begins-next b =
      h.next ∙ (ap (λ (es : List Event). es ++ new_events (who_of start) u heard) (begins-made b)
      ∙ ap (λ (x : Bool). (if x then Connect (who_of start) u ∷ [] else []) ++ map Calls heard.calls) b)

  pub begins-connect : (new : Moment) (r : Result (Unit {0}) LinkEnd) → heard.begins ≡ true → Connects u old new r → Connected u start old new p.teller h.text [] r
  begins-connect new r b connects =
      connects start p.teller h.text (begins-stands b) (
        map Calls heard.calls,
        ap (λ (U : Setup). events_heard (who_of start) u U.guid h.text) (one-setup u start old old p.teller p.teller h.text h.text h.made h.made [] [] h.stands (begins-stands b))
            ∙ begins-next b,
      )

  -- behind the connect
  pub calls-then : (mid : Moment) (q : Progress) → heard.begins ≡ true → q.teller ≡ p.teller → q.is_open ≡ true → Connects u old mid (Ok tt) → CallsNext u start mid q heard
  calls-then mid q b teller opened connects =
      let c = who_of start in
      let s : Stands u start mid q.teller h.text (Connect c u ∷ []) (Connect c u ∷ []) =
      subst (λ (t : TellerState). Stands u start mid t h.text (Connect c u ∷ []) (Connect c u ∷ [])) (sym teller) (begins-connect mid (Ok tt) b connects).0 in
      let same = one-setup u start old mid p.teller q.teller h.text h.text h.made h.made (Connect c u ∷ []) (Connect c u ∷ []) h.stands s in
      record {
        text = h.text;
        made = Connect c u ∷ [];
        stands = s;
        all = ap (λ (U : Setup). events_heard c u U.guid h.text) same ∙ begins-next b;
        end = h.end ∙ ap (λ (U : Setup). end_heard u U.guid h.text) (sym same);
        open_is = opened ∙ (sym (h.open_is ∙ ap (λ (x : Bool). x || p.is_open) b) ∙ ap (λ (U : Setup). is_begun u U.guid h.text) (sym same));
      }

  -- where there is no connect to be made
  pub calls-now : heard.begins ≡ false → CallsNext u start old p heard
  calls-now b = record {
    text = h.text;
    made = h.made;
    stands = h.stands;
    all = h.next ∙ ap (λ (x : Bool). h.made ++ ((if x then Connect (who_of start) u ∷ [] else []) ++ map Calls heard.calls)) b;
    end = h.end;
    open_is = sym (h.open_is ∙ ap (λ (x : Bool). x || p.is_open) b);
  }

  -- its calls may come
  pub calls-allowed : (c : ConnId) → old.view.who ≡ c.0 → MayCome c heard.calls
  calls-allowed c who = subst (λ (b : ConnId). MayCome b heard.calls) (ap (λ (n : ℕ). let r : ConnId = record { 0 = n } in r) (sym h.stands.goes.who ∙ who)) h.calls

-- the same of where the two ways join
pub joined-then : (u : Uid) (start : Moment) (v w now : View Setup Entry) (talk : Option (List Exchange)) (left : Option (List ℕ)) (faults : ℕ) (p q : Progress) (heard : HeardPiece) → heard.begins ≡ true → now ≡ w → q.teller ≡ p.teller
    → q.is_open ≡ true → Connects u (moment v talk left faults) (moment w talk left faults) (Ok tt) → IsHeard u start (moment v talk left faults) p heard → CallsNext u start (moment now talk left faults) q heard
joined-then u start v w now talk left faults p q heard b is teller opened connects h =
    subst (λ (x : View Setup Entry). CallsNext u start (moment x talk left faults) q heard) (sym is)
    (calls-then u start (moment v talk left faults) p heard h (moment w talk left faults) q b teller opened connects)

pub joined-else : (u : Uid) (start : Moment) (v now : View Setup Entry) (talk : Option (List Exchange)) (left : Option (List ℕ)) (faults : ℕ) (p q : Progress) (heard : HeardPiece) → heard.begins ≡ false → now ≡ v → q ≡ p
    → IsHeard u start (moment v talk left faults) p heard → CallsNext u start (moment now talk left faults) q heard
joined-else u start v now talk left faults p q heard b is same h =
    subst (λ (x : View Setup Entry). CallsNext u start (moment x talk left faults) q heard) (sym is)
    (subst (λ (x : Progress). CallsNext u start (moment v talk left faults) x heard) (sym same) (calls-now u start (moment v talk left faults) p heard h b))

module _ (u : Uid) (start mid : Moment) (p : Progress) (heard : HeardPiece) (n : CallsNext u start mid p heard) where
  are-next : AreNext n.stands (map Calls heard.calls)
  are-next = ([], n.all ∙ ap (λ (es : List Event). n.made ++ es) (sym (append-nil (map Calls heard.calls))))

  pub calls-next : HaveNext u mid p heard.calls
  calls-next = record { start = start; text = n.text; made = n.made; stands = n.stands; next = are-next }

  -- the link stopped at a call
  pub calls-early : (new : Moment) (e : LinkEnd) → Answers u p mid new heard.calls (Err e) → Stops u start new e
  calls-early new e a = a start n.text n.made n.stands are-next

  module _ (new : Moment) (q : Progress) (a : Answers u p mid new heard.calls (Ok q)) where
    stands-then : Stands u start new q.teller n.text (n.made ++ map Calls heard.calls) (n.made ++ map Calls heard.calls)
    stands-then = a start n.text n.made n.stands are-next

    same-then : stands-then.setup ≡ n.stands.setup
    same-then = one-setup u start mid new p.teller q.teller n.text n.text n.made n.made (n.made ++ map Calls heard.calls) (n.made ++ map Calls heard.calls) n.stands stands-then

    all-then : n.made ++ map Calls heard.calls ≡ events_heard (who_of start) u stands-then.setup.guid n.text
    all-then = sym (ap (λ (U : Setup). events_heard (who_of start) u U.guid n.text) same-then ∙ n.all)

    end-then : heard.end ≡ end_heard u stands-then.setup.guid n.text
    end-then = n.end ∙ ap (λ (U : Setup). end_heard u U.guid n.text) (sym same-then)

    -- all calls were answered: it rests, or stops with the end that its bytes show
    pub calls-rest : heard.end ≡ None → q.is_open ≡ p.is_open → Rests u start new q
    calls-rest none opened = record {
      text = n.text;
      made = n.made ++ map Calls heard.calls;
      stands = stands-then;
      made_is = all-then;
      going = sym end-then ∙ none;
      open_is = opened ∙ (n.open_is ∙ ap (λ (U : Setup). is_begun u U.guid n.text) (sym same-then));
    }

    pub calls-end : (x : LinkEnd) → heard.end ≡ Some x → Stops u start new x
    calls-end x is = ends-shown u start new q.teller n.text (n.made ++ map Calls heard.calls) stands-then all-then x (sym end-then ∙ is)
