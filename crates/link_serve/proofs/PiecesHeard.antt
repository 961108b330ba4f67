-- A link at rest hears something, or nothing.
use Rattle.std.proofs.Common.{◌≡◌, ℕ, zero, suc, ◌+◌, ◌<◌, ◌||◌, ◌&&◌, not, if◌then◌else◌, Bool, true, false, List, [], ◌∷◌, ◌++◌, length, take, map, Option, Some, None, IfSome, refl, ap, sym, ◌∙◌, append_assoc, append-nil, subst, drop, ◌≤◌, ◌⊎◌, inl, inr, ⊎_elim, arith, length-append}
use Rattle.std.proofs.Math.Seq.{take-append-add, take-length}
use Rattle.std.proofs.lemmas.List.{append_cancel_left, length-take, take-append-le}
use Rattle.login_base.specs.declared.ids.ConnId.{ConnId}
use Rattle.login_base.specs.declared.ids.Uid.{Uid}
use Rattle.login_edge.specs.Exchanges.{Exchange, heard, said, quiet, ended, heard_of, said_of, Grew, OnlySaid}
use Rattle.login_edge.specs.Faults.{Rose}
use Rattle.login_edge.specs.Hearing.{SaysAll}
use Rattle.login_edge.specs.declared.writing.WriteEnd.TheVariants as write
use Rattle.login_edge.proofs.Grown.{Grew-more, said_of-append}
use Rattle.login_model.specs.Legal.{events_of}
use Rattle.login_model.specs.Stopping.{stop_from}
use Rattle.login_model.specs.declared.event.Event.{Event}
use Rattle.login_model.specs.declared.event.Event.TheVariants.{Connect, Call as Calls}
use Rattle.login_model.specs.declared.mark.Entry.{Entry}
use Rattle.login_model.specs.declared.setup.Setup.{Setup}
use Rattle.desk.specs.History.{entries}
use Rattle.desk.specs.declared.view.View.{View}
use Rattle.login_office.specs.Hearing.{HasHeard, Hears, IsLink, KeepsLink, MayCome, TellerState}
use Rattle.login_office.specs.Links.{calls, end_heard, is_begun, replies}
use Rattle.login_office.specs.declared.end.LinkEnd.{LinkEnd}
use Rattle.login_office.specs.declared.end.LinkEnd.TheVariants as end
use Rattle.login_office.specs.declared.end.Unbegun.TheVariants.{HungUp}
use Rattle.login_office.specs.declared.teller.HeardPiece.{HeardPiece}
use Rattle.wire_out.specs.Mail.{bytes_of, mail, wire}
use Rattle.wire_out.proofs.Growing.{wire_grows}
use Rattle.link_serve.specs.Owners.{entries_of, events_heard, is_let_in}
use Rattle.link_serve.specs.Serving.{Came, Causes, FaultsAt, IsShort, Prompt, SaidAt, SaidThrough, SaidUnstopped, has_hung_up, is_cut, is_hang_up, is_too_many}
use Rattle.link_serve.specs.inner.Standing.{Goes, Moment, Rests, Stands, Stops, hung_up_end, new_events, who_of}
use Rattle.link_serve.specs.inner.Turning.{IsHeard, moment}
use Rattle.link_serve.specs.declared.serving.Progress.{Progress}
use Rattle.link_serve.proofs.BytesGrow.{begun-replies, begun-stays, events-begun, events-grow, events-next, events-unbegun, no-more-replies, replies-grow}
use Rattle.link_serve.proofs.Exchanged.{Grew-none, came-more, came-none, heard_of-append, heard_of-only, hung-append, hung-only, prompt-append, prompt-only, unstopped}
use Rattle.link_serve.proofs.LetIn.{stands-let-in}
use Rattle.link_serve.proofs.OwnEntries.{no-events, no-mail, own-front}

take-nil : (n : ℕ) → take {A = ℕ} n [] ≡ []
take-nil zero = refl
take-nil (suc n) = refl

front-of : {A : Type 0} (xs ys zs : List A) → zs ≡ xs ++ ys → xs ≡ take (length xs + 0) zs
front-of xs ys zs e = sym (append-nil xs) ∙ (sym (take-append-add xs ys 0) ∙ ap (take (length xs + 0)) (sym e))

-- replies and mail, with further replies: the mail is none, or these are none
swapped : (r w more : List ℕ) (b : Bool) → (b ≡ true → more ≡ []) → (b ≡ false → w ≡ []) → (r ++ w) ++ more ≡ (r ++ more) ++ w
swapped r w more true none f =
    ap (λ (z : List ℕ). (r ++ w) ++ z) (none refl) ∙ (append-nil (r ++ w) ∙ ap (λ (z : List ℕ). z ++ w) (sym (append-nil r) ∙ ap (λ (z : List ℕ). r ++ z) (sym (none refl))))
swapped r w more false f none =
    ap (λ (z : List ℕ). (r ++ z) ++ more) (none refl) ∙ (ap (λ (z : List ℕ). z ++ more) (append-nil r) ∙ (sym (append-nil (r ++ more)) ∙ ap (λ (z : List ℕ). (r ++ more) ++ z) (sym (none refl))))

module _ (u : Uid) (start : Moment) (view : View Setup Entry) (t0 : Option (List Exchange)) (l0 : Option (List ℕ)) (f0 : ℕ) (p : Progress) (unstopped-yet : stop_from 1 (entries view.seen) ≡ None) (r : Rests u start (moment view t0 l0 f0) p) where
  abbrev pub here : Stands u start (moment view t0 l0 f0) p.teller r.text r.made r.made
  here = r.stands

  -- all that is due was said
  unstopped-here : SaidUnstopped (who_of start) u here.setup.guid (entries view.seen) (events_heard (who_of start) u here.setup.guid (heard_of here.talk)) (heard_of here.talk) (said_of here.talk)
  unstopped-here =
      let c = who_of start in
      let g = here.setup.guid in
      let all : r.made ≡ events_heard c u g (heard_of here.talk) = r.made_is ∙ ap (events_heard c u g) (sym here.text_is) in
      unstopped c u g (entries view.seen) (events_heard c u g (heard_of here.talk)) (heard_of here.talk) (said_of here.talk)
      (subst (λ (x : List ℕ). SaidThrough c u g (entries view.seen) (events_heard c u g (heard_of here.talk)) x (said_of here.talk)) (sym here.text_is)
      (subst (λ (es : List Event). SaidThrough c u g (entries view.seen) es r.text (said_of here.talk)) all here.said))
      unstopped-yet

  -- nothing came of what is left
  came-still : (l1 : Option (List ℕ)) → l1 ≡ l0 → Came l0 l1 []
  came-still l1 same = subst (λ (o : Option (List ℕ)). Came l0 o []) (sym same) (came-none l0)

  -- where exchanges come in time
  goes-with : (t1 : Option (List Exchange)) (l1 : Option (List ℕ)) (f1 : ℕ) (x : List Exchange) → Grew t0 t1 x → Came l0 l1 (heard_of x) → Prompt (who_of start) u here.setup.guid (entries view.seen) (heard_of here.talk) (said_of here.talk) x
      → Goes u start (moment view t1 l1 f1) here.setup (here.talk ++ x)
  goes-with t1 l1 f1 x grew came prompt = record {
    setup_is = here.goes.setup_is;
    same_setup = here.goes.same_setup;
    who = here.goes.who;
    number = here.goes.number;
    above = here.goes.above;
    grew = Grew-more start.talk t0 t1 here.talk x here.goes.grew grew;
    came = subst (Came start.left l1) (sym (heard_of-append here.talk x)) (came-more start.left l0 l1 (heard_of here.talk) (heard_of x) here.goes.came came);
    prompt = prompt-append (who_of start) u here.setup.guid (entries view.seen) [] [] here.talk x here.goes.prompt prompt;
    in_journal = here.goes.in_journal;
  }

  unbegun-mine : is_begun u here.setup.guid r.text ≡ false → view.mine ≡ []
  unbegun-mine b = no-events view.mine (here.made_is ∙ (r.made_is ∙ events-unbegun (who_of start) u here.setup.guid r.text b))

  unbegun-fetched : is_begun u here.setup.guid r.text ≡ false → wire (who_of start) here.fetched ≡ []
  unbegun-fetched b =
      no-mail (who_of start) here.fetched (own-front (who_of start) here.fetched here.rest (ap (entries_of (who_of start)) (sym here.seen_is) ∙ (here.goes.in_journal ∙ unbegun-mine b)))

  unbegun-front : is_begun u here.setup.guid r.text ≡ false → wire (who_of start) here.said.front ≡ []
  unbegun-front b =
      no-mail (who_of start) here.said.front
      (own-front (who_of start) here.said.front here.said.rest (ap (entries_of (who_of start)) (sym here.said.journal_is) ∙ (here.goes.in_journal ∙ unbegun-mine b)))

  -- behind what was heard and replied
  pub stands-heard : (t1 : Option (List Exchange)) (l1 : Option (List ℕ)) (f1 : ℕ) (x : List Exchange) (after : TellerState) (text replied : List ℕ) → Grew t0 t1 x → Came l0 l1 (heard_of x)
      → Prompt (who_of start) u here.setup.guid (entries view.seen) (heard_of here.talk) (said_of here.talk) x → text ≡ r.text ++ heard_of x → said_of x ≡ replied
      → replies u here.setup.guid text ≡ replies u here.setup.guid r.text ++ replied → (is_begun u here.setup.guid r.text ≡ true → replied ≡ [])
      → IsLink after (who_of start) u here.setup.guid → after.place ≡ p.teller.place → HasHeard after text → has_hung_up x ≡ false → f1 ≡ f0
      → Stands u start (moment view t1 l1 f1) after text r.made r.made
  stands-heard t1 l1 f1 x after text replied grew came prompt text-is said-is replies-are none link place has hang same =
      let c = who_of start in
      let g = here.setup.guid in
      let spoken : (w : List ℕ) → (is_begun u g r.text ≡ false → w ≡ []) → said_of here.talk ≡ replies u g r.text ++ w → said_of (here.talk ++ x) ≡ replies u g text ++ w =
      λ w n is. said_of-append here.talk x ∙ (ap (λ (z : List ℕ). z ++ said_of x) is ∙ (ap (λ (z : List ℕ). (replies u g r.text ++ w) ++ z) said-is
      ∙ (swapped (replies u g r.text) w replied (is_begun u g r.text) none n ∙ ap (λ (z : List ℕ). z ++ w) (sym replies-are)))) in
      let grown = events-grow c u g r.text (heard_of x) in
      record {
        setup = here.setup;
        talk = here.talk ++ x;
        goes = goes-with t1 l1 f1 x grew came prompt;
        text_is = heard_of-append here.talk x ∙ (ap (λ (z : List ℕ). z ++ heard_of x) here.text_is ∙ sym text-is);
        link = link;
        heard = has;
        stepped = length r.made + 0;
        calls = front-of r.made grown.0 (events_heard c u g text) (ap (events_heard c u g) text-is ∙ (grown.1 ∙ ap (λ (es : List Event). es ++ grown.0) (sym r.made_is)));
        made_is = here.made_is;
        let_in = here.let_in;
        said = record {
          front = here.said.front;
          rest = here.said.rest;
          journal_is = here.said.journal_is;
          made = here.said.made;
          said_is = spoken (wire c here.said.front) unbegun-front here.said.said_is;
        };
        fetched = here.fetched;
        rest = here.rest;
        seen_is = here.seen_is;
        place = place ∙ here.place;
        said_fetched = spoken (wire c here.fetched) unbegun-fetched here.said_fetched;
        going = hung-append here.talk x ∙ (ap (λ (b : Bool). b || has_hung_up x) here.going ∙ hang);
        faults = same ∙ here.faults;
      }

  -- nothing was there
  pub quiet-rests : (t1 : Option (List Exchange)) (l1 : Option (List ℕ)) (f1 : ℕ) → Grew t0 t1 (quiet ∷ []) → l1 ≡ l0 → f1 ≡ f0 → Rests u start (moment view t1 l1 f1) p
  unfolding stands-heard
  quiet-rests t1 l1 f1 grew left same =
      let g = here.setup.guid in
      record {
        text = r.text;
        made = r.made;
        stands = stands-heard t1 l1 f1 (quiet ∷ []) p.teller r.text [] grew (came-still l1 left) (unstopped-here, tt) (sym (append-nil r.text)) refl (sym (append-nil (replies u g r.text))) (λ b. refl) here.link refl here.heard refl same;
        made_is = r.made_is;
        going = r.going;
        open_is = r.open_is;
      }

  -- the link stops where it rests, with an end that is no cut
  stops-here : (t1 : Option (List Exchange)) (l1 : Option (List ℕ)) (f1 : ℕ) (x : List Exchange) (e : LinkEnd) → Grew t0 t1 x → l1 ≡ l0 → Prompt (who_of start) u here.setup.guid (entries view.seen) (heard_of here.talk) (said_of here.talk) x
      → heard_of x ≡ [] → said_of x ≡ [] → ((text : List ℕ) → text ≡ r.text → Causes here.setup (who_of start) u (entries view.seen) view.mine text e) → is_cut e ≡ false → is_too_many e ≡ false → has_hung_up x ≡ is_hang_up e
      → (is_hang_up e ≡ true → IfSome l1 (λ (rest : List ℕ). rest ≡ [])) → FaultsAt e start.faults f1 → Stops u start (moment view t1 l1 f1) e
  stops-here t1 l1 f1 x e grew left prompt deaf mute cause cut few hang emptied faults =
      let c = who_of start in
      let g = here.setup.guid in
      let text-now : heard_of (here.talk ++ x) ≡ r.text = heard_of-append here.talk x ∙ (ap (λ (z : List ℕ). heard_of here.talk ++ z) deaf ∙ (append-nil (heard_of here.talk) ∙ here.text_is)) in
      let said-now : said_of (here.talk ++ x) ≡ said_of here.talk = said_of-append here.talk x ∙ (ap (λ (z : List ℕ). said_of here.talk ++ z) mute ∙ append-nil (said_of here.talk)) in
      let through : SaidThrough c u g (entries view.seen) (events_of view.mine) (heard_of (here.talk ++ x)) (said_of (here.talk ++ x)) =
      subst (λ (es : List Event). SaidThrough c u g (entries view.seen) es (heard_of (here.talk ++ x)) (said_of (here.talk ++ x))) (sym here.made_is)
      (subst (λ (t : List ℕ). SaidThrough c u g (entries view.seen) r.made t (said_of (here.talk ++ x))) (sym text-now)
      (subst (λ (t : List ℕ). SaidThrough c u g (entries view.seen) r.made r.text t) (sym said-now) here.said)) in
      record {
        setup = here.setup;
        talk = here.talk ++ x;
        goes = goes-with t1 l1 f1 x grew (subst (Came l0 l1) (sym deaf) (came-still l1 left)) prompt;
        stepped = here.stepped;
        calls = here.made_is ∙ (here.calls ∙ ap (λ (t : List ℕ). take here.stepped (events_heard c u g t)) (sym text-now));
        said = subst (SaidAt c u g (entries view.seen) (events_of view.mine) (heard_of (here.talk ++ x)) (said_of (here.talk ++ x))) (sym cut) through;
        cause = cause (heard_of (here.talk ++ x)) text-now;
        shown = λ shown q all. absurd (none-shown shown (sym r.going ∙ (ap (end_heard u g) (sym text-now) ∙ q)));
        hung_up = hung-append here.talk x ∙ (ap (λ (b : Bool). b || has_hung_up x) here.going ∙ hang);
        unsaid = λ k. absurd (let b : false ≡ true = sym cut ∙ ap is_cut k in cc);
        let_in = here.let_in ∙ sym few;
        emptied = emptied;
        faults = faults;
      }
    where
      none-shown : (shown : LinkEnd) → None ≡ Some shown → ⊥
      none-shown shown e = cc

  let-in : is_begun u here.setup.guid r.text ≡ true → is_let_in view.mine ≡ true
  let-in b =
      let c = who_of start in
      let g = here.setup.guid in
      stands-let-in u start (moment view t0 l0 f0) p.teller r.text r.made r.made here (Connect c u) (map Calls (calls c u g r.text)) (r.made_is ∙ events-begun c u g r.text b)

  all-made : (text : List ℕ) → text ≡ r.text → events_of view.mine ≡ events_heard (who_of start) u here.setup.guid text
  all-made text is = here.made_is ∙ (r.made_is ∙ ap (events_heard (who_of start) u here.setup.guid) (sym is))

  -- a read failed
  pub failed-stops : (t1 : Option (List Exchange)) (l1 : Option (List ℕ)) (f1 : ℕ) → t1 ≡ t0 → l1 ≡ l0 → Rose f0 f1 → Stops u start (moment view t1 l1 f1) end.ReadFault
  failed-stops t1 l1 f1 same left rose =
      stops-here t1 l1 f1 [] end.ReadFault (subst (λ (o : Option (List Exchange)). Grew t0 o []) (sym same) (Grew-none t0)) left tt refl refl
      (λ text is. (all-made text is, ap (end_heard u here.setup.guid) is ∙ r.going)) refl refl refl (λ k. absurd (let b : false ≡ true = k in cc)) (subst (λ (n : ℕ). Rose n f1) here.faults rose)

  -- the client hung up
  pub hung-stops : (t1 : Option (List Exchange)) (l1 : Option (List ℕ)) (f1 : ℕ) (e : LinkEnd) → e ≡ hung_up_end p.is_open → Grew t0 t1 (ended ∷ []) → IfSome l0 (λ rest. rest ≡ []) → l1 ≡ l0 → f1 ≡ f0 → Stops u start (moment view t1 l1 f1) e
  hung-stops t1 l1 f1 e is grew nothing left same = subst (Stops u start (moment view t1 l1 f1)) (sym is) (by p.is_open refl)
    where
      nothing-left : IfSome l1 (λ (rest : List ℕ). rest ≡ [])
      nothing-left = subst (λ (o : Option (List ℕ)). IfSome o (λ (rest : List ℕ). rest ≡ [])) (sym left) nothing

      by : (b : Bool) → p.is_open ≡ b → Stops u start (moment view t1 l1 f1) (hung_up_end p.is_open)
      by true b =
          subst (λ (x : Bool). Stops u start (moment view t1 l1 f1) (hung_up_end x)) (sym b)
          (stops-here t1 l1 f1 (ended ∷ []) end.Closed grew left (unstopped-here, tt) refl refl
          (λ text is. (let-in (sym r.open_is ∙ b), all-made text is, ap (end_heard u here.setup.guid) is ∙ r.going)) refl refl refl (λ k. nothing-left) (same ∙ here.faults))
      by false b =
          subst (λ (x : Bool). Stops u start (moment view t1 l1 f1) (hung_up_end x)) (sym b)
          (stops-here t1 l1 f1 (ended ∷ []) (end.NotBegun HungUp) grew left (unstopped-here, tt) refl refl
          (λ text is. (ap (is_begun u here.setup.guid) is ∙ (sym r.open_is ∙ b), ap (end_heard u here.setup.guid) is ∙ r.going)) refl refl refl (λ k. nothing-left) (same ∙ here.faults))

  -- a piece was heard, and its replies were said
  pub piece-heard : (tm t1 : Option (List Exchange)) (lm l1 : Option (List ℕ)) (fm f1 : ℕ) (piece : List ℕ) (told : HeardPiece) (p1 : Progress) → Grew t0 tm (heard piece ∷ []) → Came l0 lm piece → l1 ≡ lm → fm ≡ f0 → p1.is_open ≡ p.is_open
      → Hears p.teller piece p1.teller told → KeepsLink p.teller p1.teller → MayCome p.teller.who told.calls → (spoken : List ℕ) → spoken ≡ told.replies → SaysAll tm t1 write.Done spoken → f1 ≡ fm
      → IsHeard u start (moment view t1 l1 f1) p1 told
  unfolding stands-heard
  piece-heard tm t1 lm l1 fm f1 piece told p1 grew gave left same-read opened h keeps may text text-is say same =
      let came : Came l0 l1 piece = subst (λ (o : Option (List ℕ)). Came l0 o piece) (sym left) gave in
      let c = who_of start in
      let g = here.setup.guid in
      let x : List Exchange = heard piece ∷ say.more in
      let spoken : said_of say.more ≡ told.replies = say.front ∙ (ap (λ (k : ℕ). take k text) say.whole ∙ (take-length text ∙ text-is)) in
      let nothing : heard_of x ≡ piece = ap (λ (z : List ℕ). piece ++ z) (heard_of-only say.more say.only) ∙ append-nil piece in
      let stands : Stands u start (moment view t1 l1 f1) p1.teller (r.text ++ piece) r.made r.made =
      stands-heard t1 l1 f1 x p1.teller (r.text ++ piece) told.replies (Grew-more t0 tm t1 (heard piece ∷ []) say.more grew say.grew) (subst (Came l0 l1) (sym nothing) came)
      (unstopped-here, prompt-only c u g (entries view.seen) (heard_of here.talk ++ piece) (said_of here.talk) say.more say.only)
      (ap (λ (z : List ℕ). r.text ++ z) (sym nothing)) spoken
      (in-terms (λ b v k. replies v k (r.text ++ piece) ≡ replies v k r.text ++ told.replies) (h.replies r.text here.heard))
      (λ b. no-more-replies p.teller p1.teller r.text piece told h here.heard (in-terms-back (λ d v k. is_begun v k r.text ≡ true) b))
      (record { who = keeps.who ∙ here.link.who; uid = keeps.uid ∙ here.link.uid; guid = keeps.guid ∙ here.link.guid })
      keeps.place (h.heard r.text here.heard) (hung-only say.more say.only) (same ∙ same-read) in
      record {
        text = r.text ++ piece;
        made = r.made;
        stands = stands;
        next = in-terms (λ b v k. events_heard b v k (r.text ++ piece) ≡ events_heard b v k r.text ++ new_events b v told) (events-next p.teller p1.teller r.text piece told h here.heard)
            ∙ ap (λ (es : List Event). es ++ new_events c u told) (sym r.made_is);
        first = λ b. unbegun-mine (not-both (is_begun u g (r.text ++ piece)) (is_begun u g r.text) (sym begins-now ∙ b));
        open_is = opens (is_begun u g (r.text ++ piece)) (is_begun u g r.text) (λ b. begun-stays u g r.text piece b)
            ∙ (ap (λ (b : Bool). b || is_begun u g r.text) (sym begins-now) ∙ ap (λ (b : Bool). told.begins || b) (sym (opened ∙ r.open_is)));
        end = in-terms (λ b v k. told.end ≡ end_heard v k (r.text ++ piece)) (h.end r.text here.heard);
        calls = subst (λ (b : ConnId). MayCome b told.calls) here.link.who may;
      }
    where
      in-terms : (P : ConnId → Uid → List ℕ → Type 0) → P p.teller.who p.teller.auth.uid p.teller.auth.guid → P (who_of start) u here.setup.guid
      in-terms P x =
          subst (λ (b : ConnId). P b u here.setup.guid) here.link.who
          (subst (λ (v : Uid). P p.teller.who v here.setup.guid) here.link.uid (subst (P p.teller.who p.teller.auth.uid) here.link.guid x))

      in-terms-back : (P : ConnId → Uid → List ℕ → Type 0) → P (who_of start) u here.setup.guid → P p.teller.who p.teller.auth.uid p.teller.auth.guid
      in-terms-back P x =
          subst (λ (b : ConnId). P b p.teller.auth.uid p.teller.auth.guid) (sym here.link.who)
          (subst (λ (v : Uid). P (who_of start) v p.teller.auth.guid) (sym here.link.uid) (subst (P (who_of start) u) (sym here.link.guid) x))

      begins-now : told.begins ≡ (is_begun u here.setup.guid (r.text ++ piece) && not (is_begun u here.setup.guid r.text))
      begins-now = in-terms (λ b v k. told.begins ≡ (is_begun v k (r.text ++ piece) && not (is_begun v k r.text))) (h.begins r.text here.heard)

      not-both : (now was : Bool) → (now && not was) ≡ true → was ≡ false
      not-both true true e = absurd (let k : false ≡ true = e in cc)
      not-both false true e = absurd (let k : false ≡ true = e in cc)
      not-both now false e = refl

      opens : (now was : Bool) → (was ≡ true → now ≡ true) → now ≡ (now && not was) || was
      opens true true s = refl
      opens true false s = refl
      opens false true s = absurd (let k : false ≡ true = s refl in cc)
      opens false false s = refl

  -- the mail that was not fetched
  abbrev pub due-here : List ℕ
  due-here = bytes_of (drop (length (mail (who_of start) here.fetched)) (mail (who_of start) (entries view.seen)))

  wire-here : wire (who_of start) (entries view.seen) ≡ wire (who_of start) here.fetched ++ due-here
  wire-here =
      subst (λ (z : List Entry). wire (who_of start) z ≡ wire (who_of start) here.fetched ++ bytes_of (drop (length (mail (who_of start) here.fetched)) (mail (who_of start) z))) (sym here.seen_is)
      (wire_grows (who_of start) here.fetched here.rest)

  -- where the replies to a piece are cut off, something is left to be said
  said-short : (piece more : List ℕ) (count : ℕ) → replies u here.setup.guid (r.text ++ piece) ≡ replies u here.setup.guid r.text ++ more → count < length more
      → length (said_of here.talk ++ take count more) < length (replies u here.setup.guid (r.text ++ piece) ++ wire (who_of start) (entries view.seen))
  said-short piece more count are below =
      let R = replies u here.setup.guid r.text in
      let W = wire (who_of start) here.fetched in
      let J = wire (who_of start) (entries view.seen) in
      omega (
        arith,
        below,
        ap length here.said_fetched,
        length-append R W,
        length-append (said_of here.talk) (take count more),
        length-take count more,
        length-append (replies u here.setup.guid (r.text ++ piece)) J,
        ap length are,
        length-append R more,
        ap length wire-here,
        length-append W due-here,
      )

  -- what was said when a piece is cut off: a front of the replies and the mail
  said-cut : (piece more : List ℕ) (count : ℕ) → replies u here.setup.guid (r.text ++ piece) ≡ replies u here.setup.guid r.text ++ more → (is_begun u here.setup.guid r.text ≡ true → more ≡ [])
      → count ≤ length more → (k : ℕ) × (said_of here.talk ++ take count more ≡ take k (replies u here.setup.guid (r.text ++ piece) ++ wire (who_of start) (entries view.seen)))
  said-cut piece more count are none le = by (is_begun u here.setup.guid r.text) refl
    where
      R : List ℕ
      R = replies u here.setup.guid r.text

      W : List ℕ
      W = wire (who_of start) here.fetched

      J : List ℕ
      J = wire (who_of start) (entries view.seen)

      due : List ℕ
      due = due-here

      all : J ≡ W ++ due
      all = wire-here

      by : (b : Bool) → is_begun u here.setup.guid r.text ≡ b → (k : ℕ) × (said_of here.talk ++ take count more ≡ take k (replies u here.setup.guid (r.text ++ piece) ++ J))
      by true b =
          let gone : take count more ≡ [] = ap (take count) (none b) ∙ take-nil count in
          let target : replies u here.setup.guid (r.text ++ piece) ++ J ≡ (R ++ W) ++ due =
          ap (λ (z : List ℕ). z ++ J) (are ∙ (ap (λ (z : List ℕ). R ++ z) (none b) ∙ append-nil R)) ∙ (ap (λ (z : List ℕ). R ++ z) all ∙ sym (append_assoc R W due)) in (
            length (R ++ W) + 0,
            ap (λ (z : List ℕ). said_of here.talk ++ z) gone ∙ (append-nil (said_of here.talk) ∙ (here.said_fetched ∙ (front-of (R ++ W) due ((R ++ W) ++ due) refl ∙ ap (take (length (R ++ W) + 0)) (sym target)))),
          )
      by false b =
          let spoken : said_of here.talk ≡ R = here.said_fetched ∙ (ap (λ (z : List ℕ). R ++ z) (unbegun-fetched b) ∙ append-nil R) in
          let target : replies u here.setup.guid (r.text ++ piece) ++ J ≡ R ++ (more ++ J) = ap (λ (z : List ℕ). z ++ J) are ∙ append_assoc R more J in (
            length R + count,
            ap (λ (z : List ℕ). z ++ take count more) spoken ∙ (ap (λ (z : List ℕ). R ++ z) (sym (take-append-le count more J le))
                ∙ (sym (take-append-add R (more ++ J) count) ∙ ap (take (length R + count)) (sym target))),
          )

  cut-here : (t1 : Option (List Exchange)) (l1 : Option (List ℕ)) (f1 : ℕ) (piece : List ℕ) (more : List Exchange) (e : LinkEnd) (k : ℕ) → Grew t0 t1 (heard piece ∷ more) → Came l0 l1 piece → OnlySaid more
      → said_of here.talk ++ said_of more ≡ take k (replies u here.setup.guid (r.text ++ piece) ++ wire (who_of start) (entries view.seen))
      → (e ≡ end.WriteFault → length (said_of here.talk ++ said_of more) < length (replies u here.setup.guid (r.text ++ piece) ++ wire (who_of start) (entries view.seen)))
      → (e ≡ end.WriteFault) ⊎ (e ≡ end.NoMemory) → FaultsAt e start.faults f1 → Stops u start (moment view t1 l1 f1) e
  cut-here t1 l1 f1 piece more e k grew came only front short which faults =
      let c = who_of start in
      let g = here.setup.guid in
      let x : List Exchange = heard piece ∷ more in
      let text-now : heard_of (here.talk ++ x) ≡ r.text ++ piece =
      heard_of-append here.talk x ∙ (ap (λ (z : List ℕ). heard_of here.talk ++ (piece ++ z)) (heard_of-only more only) ∙ (ap (λ (z : List ℕ). heard_of here.talk ++ z) (append-nil piece) ∙ ap (λ (z : List ℕ). z ++ piece) here.text_is)) in
      let grown = events-grow c u g r.text piece in
      let cut : is_cut e ≡ true = ⊎_elim (λ q. ap is_cut q) (λ q. ap is_cut q) which in
      let stays : is_hang_up e ≡ false = ⊎_elim (λ q. ap is_hang_up q) (λ q. ap is_hang_up q) which in
      let few : is_too_many e ≡ false = ⊎_elim (λ q. ap is_too_many q) (λ q. ap is_too_many q) which in
      record {
        setup = here.setup;
        talk = here.talk ++ x;
        goes = goes-with t1 l1 f1 x grew (subst (Came l0 l1) (sym (ap (λ (z : List ℕ). piece ++ z) (heard_of-only more only) ∙ append-nil piece)) came) (unstopped-here, prompt-only c u g (entries view.seen) (heard_of here.talk ++ piece) (said_of here.talk) more only);
        stepped = length r.made + 0;
        calls = here.made_is ∙ (front-of r.made grown.0 (events_heard c u g (r.text ++ piece)) (grown.1 ∙ ap (λ (es : List Event). es ++ grown.0) (sym r.made_is))
            ∙ ap (λ (t : List ℕ). take (length r.made + 0) (events_heard c u g t)) (sym text-now));
        said = subst (SaidAt c u g (entries view.seen) (events_of view.mine) (heard_of (here.talk ++ x)) (said_of (here.talk ++ x))) (sym cut)
            (k, said_of-append here.talk x ∙ (front ∙ ap (λ (t : List ℕ). take k (replies u g t ++ wire c (entries view.seen))) (sym text-now)));
        cause = ⊎_elim (λ q. subst (Causes here.setup c u (entries view.seen) view.mine (heard_of (here.talk ++ x))) (sym q) tt) (λ q. subst (Causes here.setup c u (entries view.seen) view.mine (heard_of (here.talk ++ x))) (sym q) tt) which;
        shown = λ shown q all. inr (inl cut);
        hung_up = hung-append here.talk x ∙ (ap (λ (b : Bool). b || has_hung_up x) here.going ∙ (hung-only more only ∙ sym stays));
        unsaid = λ q. subst (λ (t : List ℕ). IsShort c u g (entries view.seen) t (said_of (here.talk ++ x))) (sym text-now)
            (subst (λ (t : List ℕ). IsShort c u g (entries view.seen) (r.text ++ piece) t) (sym (said_of-append here.talk x)) (short q));
        let_in = here.let_in ∙ sym few;
        emptied = λ q. absurd (let b : false ≡ true = sym stays ∙ q in cc);
        faults = faults;
      }

  -- there was no memory for a piece
  pub unheard-stops : (t1 : Option (List Exchange)) (l1 : Option (List ℕ)) (f1 : ℕ) (piece : List ℕ) → Grew t0 t1 (heard piece ∷ []) → Came l0 l1 piece → f1 ≡ f0 → Stops u start (moment view t1 l1 f1) end.NoMemory
  unheard-stops t1 l1 f1 piece grew came same =
      let grown = replies-grow u here.setup.guid r.text piece in
      let none : is_begun u here.setup.guid r.text ≡ true → grown.0 ≡ [] =
      λ b. append_cancel_left (replies u here.setup.guid r.text) grown.0 [] (sym grown.1 ∙ (begun-replies u here.setup.guid r.text piece b ∙ sym (append-nil (replies u here.setup.guid r.text)))) in
      let k = said-cut piece grown.0 0 grown.1 none (omega arith) in
      cut-here t1 l1 f1 piece [] end.NoMemory k.0 grew came tt k.1 (λ q. absurd (let z : ⊥ = cc in z)) (inr refl) (same ∙ here.faults)

  -- the replies to a piece could not be written
  pub unreplied-stops : (tm t1 : Option (List Exchange)) (lm l1 : Option (List ℕ)) (fm f1 : ℕ) (piece : List ℕ) (told : HeardPiece) (after : TellerState) → Grew t0 tm (heard piece ∷ []) → Came l0 lm piece → l1 ≡ lm → fm ≡ f0
      → Hears p.teller piece after told → (spoken : List ℕ) → spoken ≡ told.replies → SaysAll tm t1 write.Fault spoken → Rose fm f1 → Stops u start (moment view t1 l1 f1) end.WriteFault
  unreplied-stops tm t1 lm l1 fm f1 piece told after grew gave left same h text text-is cut rose =
      let came : Came l0 l1 piece = subst (λ (o : Option (List ℕ)). Came l0 o piece) (sym left) gave in
      let say : SaysAll tm t1 write.Fault told.replies = subst (SaysAll tm t1 write.Fault) text-is cut in
      let at-link : (v : Uid) (g : List ℕ) → p.teller.auth.uid ≡ v → p.teller.auth.guid ≡ g → replies v g (r.text ++ piece) ≡ replies v g r.text ++ told.replies =
      λ v g uv ug. subst (λ (y : Uid). replies y g (r.text ++ piece) ≡ replies y g r.text ++ told.replies) uv
      (subst (λ (y : List ℕ). replies p.teller.auth.uid y (r.text ++ piece) ≡ replies p.teller.auth.uid y r.text ++ told.replies) ug (h.replies r.text here.heard)) in
      let are = at-link u here.setup.guid here.link.uid here.link.guid in
      let none : is_begun u here.setup.guid r.text ≡ true → told.replies ≡ [] =
      λ b. append_cancel_left (replies u here.setup.guid r.text) told.replies [] (sym are ∙ (begun-replies u here.setup.guid r.text piece b ∙ sym (append-nil (replies u here.setup.guid r.text)))) in
      let k = said-cut piece told.replies say.count are none (omega (arith, say.whole)) in
      cut-here t1 l1 f1 piece say.more end.WriteFault k.0 (Grew-more t0 tm t1 (heard piece ∷ []) say.more grew say.grew) came say.only (ap (λ (z : List ℕ). said_of here.talk ++ z) say.front ∙ k.1)
      (λ q. subst (λ (z : List ℕ). length (said_of here.talk ++ z) < length (replies u here.setup.guid (r.text ++ piece) ++ wire (who_of start) (entries view.seen))) (sym say.front) (said-short piece told.replies say.count are say.whole)) (inl refl)
      (subst (λ (n : ℕ). Rose n f1) (same ∙ here.faults) rose)
