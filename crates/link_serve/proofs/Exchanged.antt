-- What is heard, said and said in time, as talks and journals go on.
use Rattle.std.proofs.Common.{◌≡◌, ℕ, ◌+◌, if◌then◌else◌, List, [], ◌∷◌, ◌++◌, Option, Some, None, Bool, true, false, ◌||◌, refl, ap, sym, ◌∙◌, append_assoc, append-nil, subst}
use Rattle.std.specs.Option.{option_map}
use Rattle.login_base.specs.declared.ids.ConnId.{ConnId}
use Rattle.login_base.specs.declared.ids.Uid.{Uid}
use Rattle.login_edge.specs.Exchanges.{Exchange, heard, said, quiet, ended, heard_of, said_of, Grew, OnlySaid}
use Rattle.login_model.specs.Stopping.{is_stop, stop_from}
use Rattle.login_model.specs.declared.event.Event.{Event}
use Rattle.login_model.specs.declared.mark.Entry.{Entry}
use Rattle.link_serve.specs.Owners.{events_heard}
use Rattle.link_serve.specs.Serving.{Came, Prompt, SaidThrough, SaidUnstopped, has_hung_up}

-- a stop is found in each journal that goes on
pub stop-longer : (n k : ℕ) (J more : List Entry) → stop_from n J ≡ Some k → stop_from n (J ++ more) ≡ Some k
stop-longer n k [] more e = absurd (let z : ⊥ = cc in z)
stop-longer n k (x ∷ J) more e = by (is_stop x.event) e (stop-longer (n + 1) k J more)
  where
    by : (b : Bool) → (if b then Some n else stop_from (n + 1) J) ≡ Some k → (stop_from (n + 1) J ≡ Some k → stop_from (n + 1) (J ++ more) ≡ Some k) → (if b then Some n else stop_from (n + 1) (J ++ more)) ≡ Some k
    by true e later = e
    by false e later = later e

-- where there is none, there is none in a front
front-unstopped : (front rest : List Entry) → stop_from 1 (front ++ rest) ≡ None → stop_from 1 front ≡ None
front-unstopped front rest none = by (stop_from 1 front) refl
  where
    by : (o : Option ℕ) → stop_from 1 front ≡ o → stop_from 1 front ≡ None
    by None e = e
    by (Some k) e = absurd (let s : Some k ≡ None = sym (stop-longer 1 k front rest e) ∙ none in cc)

pub Grew-none : (o : Option (List Exchange)) → Grew o o []
Grew-none None = refl
Grew-none (Some talk) = ap Some (sym (append-nil talk))

-- what came of what was left
pub came-none : (left : Option (List ℕ)) → Came left left []
came-none None = refl
came-none (Some rest) = refl

pub came-more : (old mid new : Option (List ℕ)) (x y : List ℕ) → Came old mid x → Came mid new y → Came old new (x ++ y)
came-more old mid None x y p q = p ∙ ap (option_map (λ (r : List ℕ). x ++ r)) q
came-more old mid (Some rest) x y p q = p ∙ (ap (option_map (λ (r : List ℕ). x ++ r)) q ∙ ap (λ (r : List ℕ). Some r) (sym (append_assoc x y rest)))

pub heard_of-append : (x y : List Exchange) → heard_of (x ++ y) ≡ heard_of x ++ heard_of y
heard_of-append [] y = refl
heard_of-append (heard b ∷ x) y = ap (λ (t : List ℕ). b ++ t) (heard_of-append x y) ∙ sym (append_assoc b (heard_of x) (heard_of y))
heard_of-append (said b ∷ x) y = heard_of-append x y
heard_of-append (quiet ∷ x) y = heard_of-append x y
heard_of-append (ended ∷ x) y = heard_of-append x y

pub heard_of-only : (ts : List Exchange) → OnlySaid ts → heard_of ts ≡ []
heard_of-only [] o = refl
heard_of-only (heard b ∷ ts) o = absurd o
heard_of-only (said b ∷ ts) o = heard_of-only ts o
heard_of-only (quiet ∷ ts) o = absurd o
heard_of-only (ended ∷ ts) o = absurd o

pub hung-append : (x y : List Exchange) → has_hung_up (x ++ y) ≡ has_hung_up x || has_hung_up y
hung-append [] y = refl
hung-append (heard b ∷ x) y = hung-append x y
hung-append (said b ∷ x) y = hung-append x y
hung-append (quiet ∷ x) y = hung-append x y
hung-append (ended ∷ x) y = refl

pub hung-only : (ts : List Exchange) → OnlySaid ts → has_hung_up ts ≡ false
hung-only [] o = refl
hung-only (heard b ∷ ts) o = absurd o
hung-only (said b ∷ ts) o = hung-only ts o
hung-only (quiet ∷ ts) o = absurd o
hung-only (ended ∷ ts) o = absurd o

-- behind what was heard, what is only said leaves it so
pub heard-same : (x y : List Exchange) (text : List ℕ) → heard_of x ≡ text → OnlySaid y → heard_of (x ++ y) ≡ text
heard-same x y text is o =
    heard_of-append x y ∙ (ap (λ (t : List ℕ). heard_of x ++ t) (heard_of-only y o) ∙ (append-nil (heard_of x) ∙ is))

pub hung-same : (x y : List Exchange) → has_hung_up x ≡ false → OnlySaid y → has_hung_up (x ++ y) ≡ false
hung-same x y is o = hung-append x y ∙ (ap (λ (b : Bool). b || has_hung_up y) is ∙ hung-only y o)

module _ (c : ConnId) (u : Uid) (guid : List ℕ) where
  abbrev pub through-longer : (J more : List Entry) (events : List Event) (text spoken : List ℕ) → SaidThrough c u guid J events text spoken → SaidThrough c u guid (J ++ more) events text spoken
  through-longer J more events text spoken t = record {
    front = t.front;
    rest = t.rest ++ more;
    journal_is = ap (λ (z : List Entry). z ++ more) t.journal_is ∙ append_assoc t.front t.rest more;
    made = t.made;
    said_is = t.said_is;
  }

  unstopped-longer : (J more : List Entry) (events : List Event) (text spoken : List ℕ) → SaidUnstopped c u guid J events text spoken → SaidUnstopped c u guid (J ++ more) events text spoken
  unstopped-longer J more events text spoken t = record { through = through-longer J more events text spoken t.through; no_stop = t.no_stop }

  -- what was said through a journal without the stop
  pub unstopped : (J : List Entry) (events : List Event) (text spoken : List ℕ) → SaidThrough c u guid J events text spoken → stop_from 1 J ≡ None → SaidUnstopped c u guid J events text spoken
  unstopped J events text spoken t none = record { through = t; no_stop = front-unstopped t.front t.rest (sym (ap (stop_from 1) t.journal_is) ∙ none) }

  pub prompt-longer : (J more : List Entry) (text spoken : List ℕ) (ts : List Exchange) → Prompt c u guid J text spoken ts → Prompt c u guid (J ++ more) text spoken ts
  prompt-longer J more text spoken [] p = tt
  prompt-longer J more text spoken (heard b ∷ ts) p =
      (unstopped-longer J more (events_heard c u guid text) text spoken p.0, prompt-longer J more (text ++ b) spoken ts p.1)
  prompt-longer J more text spoken (said b ∷ ts) p = prompt-longer J more text (spoken ++ b) ts p
  prompt-longer J more text spoken (quiet ∷ ts) p =
      (unstopped-longer J more (events_heard c u guid text) text spoken p.0, prompt-longer J more text spoken ts p.1)
  prompt-longer J more text spoken (ended ∷ ts) p =
      (unstopped-longer J more (events_heard c u guid text) text spoken p.0, prompt-longer J more text spoken ts p.1)

  pub prompt-append : (J : List Entry) (text spoken : List ℕ) (xs ys : List Exchange) → Prompt c u guid J text spoken xs
      → Prompt c u guid J (text ++ heard_of xs) (spoken ++ said_of xs) ys → Prompt c u guid J text spoken (xs ++ ys)
  prompt-append J text spoken [] ys p q =
      subst (λ (z : List ℕ). Prompt c u guid J text z ys) (append-nil spoken) (subst (λ (z : List ℕ). Prompt c u guid J z (spoken ++ []) ys) (append-nil text) q)
  prompt-append J text spoken (heard b ∷ xs) ys p q =
      (p.0, prompt-append J (text ++ b) spoken xs ys p.1 (subst (λ (z : List ℕ). Prompt c u guid J z (spoken ++ said_of xs) ys) (sym (append_assoc text b (heard_of xs))) q))
  prompt-append J text spoken (said b ∷ xs) ys p q =
      prompt-append J text (spoken ++ b) xs ys p (subst (λ (z : List ℕ). Prompt c u guid J (text ++ heard_of xs) z ys) (sym (append_assoc spoken b (said_of xs))) q)
  prompt-append J text spoken (quiet ∷ xs) ys p q = (p.0, prompt-append J text spoken xs ys p.1 q)
  prompt-append J text spoken (ended ∷ xs) ys p q = (p.0, prompt-append J text spoken xs ys p.1 q)

  pub prompt-only : (J : List Entry) (text spoken : List ℕ) (ts : List Exchange) → OnlySaid ts → Prompt c u guid J text spoken ts
  prompt-only J text spoken [] o = tt
  prompt-only J text spoken (heard b ∷ ts) o = absurd o
  prompt-only J text spoken (said b ∷ ts) o = prompt-only J text (spoken ++ b) ts o
  prompt-only J text spoken (quiet ∷ ts) o = absurd o
  prompt-only J text spoken (ended ∷ ts) o = absurd o

  -- behind exchanges that were in time, in a journal that goes on, what is only said is in time
  pub prompt-more : (J more : List Entry) (xs ys : List Exchange) → Prompt c u guid J [] [] xs → OnlySaid ys → Prompt c u guid (J ++ more) [] [] (xs ++ ys)
  prompt-more J more xs ys p o =
      prompt-append (J ++ more) [] [] xs ys (prompt-longer J more [] [] xs p) (prompt-only (J ++ more) (heard_of xs) (said_of xs) ys o)
