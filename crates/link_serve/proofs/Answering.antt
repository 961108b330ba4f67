-- Calls of a link are answered one after the other.
use Rattle.std.proofs.Common.{◌≡◌, ℕ, ◌<◌, List, [], ◌∷◌, ◌++◌, map, Bool, true, Option, Some, Result, Ok, Err, refl, ap, sym, ◌∙◌, append_assoc, append-nil, subst}
use Rattle.std.proofs.lemmas.List.{map-append}
use Rattle.std.specs.Iterator.{Yields}
use Rattle.std.specs.Vec.Iter.{into_iter_items, into_iter_steps}
use Rattle.std.specs.declared.vec.IntoIter.{IntoIter}
use Rattle.login_base.specs.declared.ids.ConnId.{ConnId}
use Rattle.login_base.specs.declared.ids.Uid.{Uid}
use Rattle.login_core.specs.declared.state.Refused.{Refused}
use Rattle.login_model.specs.declared.event.Event.{Event}
use Rattle.login_model.specs.declared.event.Event.TheVariants.{Call as Calls}
use Rattle.login_model.specs.declared.event.Request.{Request}
use Rattle.login_model.specs.declared.setup.Setup.{Setup}
use Rattle.desk.specs.History.{entries}
use Rattle.login_office.specs.Hearing.{MayCome, TellerState}
use Rattle.login_office.specs.declared.end.LinkEnd.{LinkEnd}
use Rattle.wire_calls.specs.Laws.{MayStand}
use Rattle.wire_out.specs.Places.{IsPlaceIn}
use Rattle.link_serve.specs.Owners.{events_heard, is_open}
use Rattle.link_serve.specs.Turned.{StepTells}
use Rattle.link_serve.specs.inner.Standing.{Moment, Stands, Stops, refused_end, who_of}
use Rattle.link_serve.specs.inner.Turning.{Answers, AreNext, HaveNext, Tells}
use Rattle.link_serve.specs.declared.serving.Progress.{Progress}
use Rattle.link_serve.proofs.LetIn.{call-behind}
use Rattle.link_serve.proofs.Resting.{one-setup}
use Rattle.link_serve.proofs.EventsStepped.{call-stepped, event-refused}
use Rattle.link_serve.proofs.Telling.{stands-placed}

-- what the iterator of a vector has given is a front of its items
taken-front : {X A : Type 0} (s : IntoIter X A) (xs : List X) (t : IntoIter X A) → Yields into_iter_steps s xs t → into_iter_items s ≡ xs ++ into_iter_items t
taken-front {X = X} s [] t y = ap into_iter_items y
taken-front {X = X} s (x ∷ xs) t y = y.1.0 ∙ ap (λ (ys : List X). x ∷ ys) (taken-front y.0 xs t y.2)

-- an item that comes next stands behind these, before those that are still to come
pub next-item : {X A : Type 0} (s : IntoIter X A) (all xs : List X) (t : IntoIter X A) (x : X) (u : IntoIter X A) → into_iter_items s ≡ all → Yields into_iter_steps s xs t → into_iter_steps t (Some x) u
    → all ≡ xs ++ x ∷ into_iter_items u
next-item s all xs t x u is y goes = sym is ∙ (taken-front s xs t y ∙ ap (λ ys. xs ++ ys) goes.0)

-- each call that may come is allowed
pub call-allowed : (c : ConnId) (all xs : List Request) (x : Request) (ys : List Request) → all ≡ xs ++ x ∷ ys → MayCome c all → (x.who ≡ c) × MayStand x
call-allowed c all xs x ys is may = at xs (subst (MayCome c) is may)
  where
    at : (front : List Request) → MayCome c (front ++ x ∷ ys) → (x.who ≡ c) × MayStand x
    at [] m = m.0
    at (y ∷ front) m = at front m.1

-- ---- one call, where it comes next

module _ (u : Uid) (now : Moment) (p : Progress) (call : Request) (h : HaveNext u now p (call ∷ [])) where
  -- its connection is open
  pub next-open : is_open (who_of now) now.view.mine ≡ true
  next-open =
      subst (λ (c : ConnId). is_open c now.view.mine ≡ true) (ap (λ (n : ℕ). let r : ConnId = record { 0 = n } in r) (sym h.stands.goes.who))
      (call-behind u h.start now p.teller h.text h.made h.made h.stands call h.next.0 h.next.1)

  pub next-open-for : (c : ConnId) → now.view.who ≡ c.0 → call.who ≡ c → is_open call.who now.view.mine ≡ true
  next-open-for c who is = subst (λ (b : ConnId). is_open b now.view.mine ≡ true) (ap (λ (n : ℕ). let r : ConnId = record { 0 = n } in r) who ∙ sym is) next-open

-- it was answered, refused, or its mail was not written
module _ (u : Uid) (old mid new : Moment) (p : Progress) (call : Request) (talk : mid.talk ≡ old.talk) (left : mid.left ≡ old.left) (same : mid.faults ≡ old.faults) where
  pub call-refused : (why : Refused) (e : LinkEnd) → e ≡ refused_end why → StepTells (Calls call) old.view mid.view (Err why) → Answers u p old mid (call ∷ []) (Err e)
  call-refused why e is t = λ start text made s next. subst (Stops u start mid) (sym is) (event-refused u start old mid p.teller text made s (Calls call) next.0 why t next.1 refl talk left same)

  stands-mid : (granted : Bool) → StepTells (Calls call) old.view mid.view (Ok granted) → (start : Moment) (text : List ℕ) (made : List Event) (s : Stands u start old p.teller text made made)
      → AreNext s (map Calls (call ∷ [])) → Stands u start mid p.teller text (made ++ Calls call ∷ []) made
  stands-mid granted t start text made s next =
      call-stepped u start old mid p.teller text made s call granted t next (call-behind u start old p.teller text made made s call next.0 next.1) talk left same

  pub call-untold : (granted : Bool) (e : LinkEnd) → StepTells (Calls call) old.view mid.view (Ok granted) → Tells p.teller mid new (Err e) → Answers u p old new (call ∷ []) (Err e)
  call-untold granted e t tells = λ start text made s next. tells u start text (made ++ Calls call ∷ []) made (stands-mid granted t start text made s next)

  pub call-told : (granted : Bool) (r : TellerState × Option ℕ) → StepTells (Calls call) old.view mid.view (Ok granted) → Tells p.teller mid new (Ok r)
      → (start : Moment) (text : List ℕ) (made : List Event) (s : Stands u start old p.teller text made made) → AreNext s (map Calls (call ∷ [])) → Stands u start new r.0 text (made ++ map Calls (call ∷ [])) (made ++ map Calls (call ∷ []))
  call-told granted r t tells start text made s next = (tells u start text (made ++ Calls call ∷ []) made (stands-mid granted t start text made s next)).0

  -- the teller's place is one in what is seen then
  pub call-placed : (granted : Bool) → StepTells (Calls call) old.view mid.view (Ok granted) → HaveNext u old p (call ∷ []) → IsPlaceIn p.teller.place (entries mid.view.seen)
  call-placed granted t h =
      stands-placed u h.start mid p.teller h.text (h.made ++ Calls call ∷ []) h.made (stands-mid granted t h.start h.text h.made h.stands h.next)

-- ---- calls, so far

-- those so far were answered
abbrev pub AnswersSoFar : Uid → Moment → Moment → Progress → Progress → List Request → List Request → Type 0
AnswersSoFar u old now p q all done = (start : Moment) (text : List ℕ) (made : List Event) (s : Stands u start old p.teller text made made) → AreNext s (map Calls all)
    → Stands u start now q.teller text (made ++ map Calls done) (made ++ map Calls done)

-- none yet
pub none-answered : (u : Uid) (old : Moment) (p : Progress) (all : List Request) → AnswersSoFar u old old p p all []
none-answered u old p all start text made s next = subst (λ (es : List Event). Stands u start old p.teller text es es) (sym (append-nil made)) s

-- the pass is still its connection's
pub so-who : (u : Uid) (old now : Moment) (p q : Progress) (all done : List Request) → HaveNext u old p all → AnswersSoFar u old now p q all done → now.view.who ≡ old.view.who
so-who u old now p q all done h so = (so h.start h.text h.made h.stands h.next).goes.who ∙ sym h.stands.goes.who

-- all of them
pub all-answered : (u : Uid) (old now : Moment) (p q : Progress) (all done : List Request) → AnswersSoFar u old now p q all done → done ≡ all → Answers u p old now all (Ok q)
all-answered u old now p q all done so is = λ start text made s next. subst (λ (rs : List Request). Stands u start now q.teller text (made ++ map Calls rs) (made ++ map Calls rs)) is (so start text made s next)

module _ (u : Uid) (old now : Moment) (p q : Progress) (all done : List Request) (call : Request) (rest : List Request) (are : all ≡ done ++ call ∷ rest) (so : AnswersSoFar u old now p q all done) where
  made-next : (start : Moment) (text : List ℕ) (made : List Event) (s : Stands u start old p.teller text made made) (next : AreNext s (map Calls all)) → AreNext (so start text made s next) (map Calls (call ∷ []))
  made-next start text made s next = (
    map Calls rest ++ next.0,
    ap (λ (U : Setup). events_heard (who_of start) u U.guid text)
        (one-setup u start old now p.teller q.teller text text made made (made ++ map Calls done) (made ++ map Calls done) s (so start text made s next))
        ∙ (next.1 ∙ (ap (λ (rs : List Request). made ++ (map Calls rs ++ next.0)) are
        ∙ (ap (λ (es : List Event). made ++ (es ++ next.0)) (map-append Calls done (call ∷ rest))
        ∙ (ap (λ (es : List Event). made ++ es) (append_assoc (map Calls done) (map Calls (call ∷ rest)) next.0)
        ∙ sym (append_assoc made (map Calls done) (map Calls (call ∷ rest) ++ next.0)))))),
  )

  -- the next one comes next
  pub call-next : HaveNext u old p all → HaveNext u now q (call ∷ [])
  call-next h = record {
    start = h.start;
    text = h.text;
    made = h.made ++ map Calls done;
    stands = so h.start h.text h.made h.stands h.next;
    next = made-next h.start h.text h.made h.stands h.next;
  }

  -- it was answered too
  pub one-answered : (new : Moment) (x : Progress) → Answers u q now new (call ∷ []) (Ok x) → AnswersSoFar u old new p x all (done ++ call ∷ [])
  one-answered new x a start text made s next =
      subst (λ (es : List Event). Stands u start new x.teller text es es)
      (append_assoc made (map Calls done) (Calls call ∷ []) ∙ ap (λ (es : List Event). made ++ es) (sym (map-append Calls done (call ∷ []))))
      (a start text (made ++ map Calls done) (so start text made s next) (made-next start text made s next))

  -- the link stopped at it
  pub one-early : (new : Moment) (e : LinkEnd) → Answers u q now new (call ∷ []) (Err e) → Answers u p old new all (Err e)
  one-early new e a = λ start text made s next. a start text (made ++ map Calls done) (so start text made s next) (made-next start text made s next)
