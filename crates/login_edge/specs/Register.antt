-- What a listener tells of its calls: None where it does not tell it.
use Rattle.std.specs.Prelude.{ℕ, ◌≡◌, ◌+◌, ◌-◌, ◌<◌, List, [], ◌∷◌, ◌++◌, Option, Some, None, Bool, true, zero, suc}
use Rattle.std.specs.List.{slice_get}
use Rattle.login_edge.specs.Faults.{Rose, one_more}
use Rattle.login_edge.specs.declared.listener.Accepted.{Accepted}
use Rattle.login_edge.specs.declared.listener.Accepted.TheVariants.{Came, Quiet, Closed, Failed}
use Rattle.login_edge.specs.declared.listener.Opened.{Opened}
use Rattle.login_edge.specs.declared.listener.Opened.TheVariants as opened

-- a link as it came, the user that it is of, and the link as it was given back
pub record Arrived (L : Type 0) : Type 0 where
  pub link : L
  pub uid : ℕ
  pub back : Option L

-- how often accept was called, whether it has answered Closed, and the links that came, in order
pub record Register (L : Type 0) : Type 0 where
  pub asked : ℕ
  pub closed : Bool
  pub links : List (Arrived L)

-- the count of faults rises with an opening that failed, and with no other
abbrev pub OpenCause : ℕ → ℕ → Opened → Type 0
OpenCause before now opened.Ready = now ≡ before
OpenCause before now opened.Failed = Rose before now

module _ {L : Type 0} where
  -- the register after an answer
  abbrev pub accepted : Accepted L → Register L → Register L
  accepted (Came link uid) r = record { asked = one_more r.asked; closed = r.closed; links = r.links ++ record { link = link; uid = uid.0; back = None } ∷ [] }
  accepted Quiet r = record { asked = one_more r.asked; closed = r.closed; links = r.links }
  accepted Closed r = record { asked = one_more r.asked; closed = true; links = r.links }
  accepted Failed r = record { asked = one_more r.asked; closed = r.closed; links = r.links }

  -- the c-th link that comes has the number c
  abbrev pub Numbers : (L → ℕ) → ℕ → ℕ → Accepted L → Type 0
  Numbers number before now (Came link uid) = (number link ≡ before + 1) × (now ≡ before + 1)
  Numbers number before now Quiet = now ≡ before
  Numbers number before now Closed = now ≡ before
  Numbers number before now Failed = now ≡ before

  -- the count of faults rises with a call that failed, and with no other
  abbrev pub AcceptCause : ℕ → ℕ → Accepted L → Type 0
  AcceptCause before now (Came link uid) = now ≡ before
  AcceptCause before now Quiet = now ≡ before
  AcceptCause before now Closed = now ≡ before
  AcceptCause before now Failed = Rose before now

  -- the c-th link came, and was not given back
  pub record IsOut (c : ℕ) (links : List (Arrived L)) : Type 0 where
    pub arrived : Arrived L
    pub first : 0 < c
    pub came : slice_get links (c - 1) ≡ Some arrived
    pub out : arrived.back ≡ None

  -- the c-th link came, and was given back as this
  pub record IsBack (c : ℕ) (link : L) (links : List (Arrived L)) : Type 0 where
    pub arrived : Arrived L
    pub first : 0 < c
    pub came : slice_get links (c - 1) ≡ Some arrived
    pub back : arrived.back ≡ Some link

  -- the link was given back in the place behind so many others
  abbrev pub back_behind : ℕ → L → List (Arrived L) → List (Arrived L)
  back_behind n link [] = []
  back_behind zero link (a ∷ others) = record { link = a.link; uid = a.uid; back = Some link } ∷ others
  back_behind (suc n) link (a ∷ others) = a ∷ back_behind n link others

  -- the register after the c-th link was given back
  abbrev pub given_back : ℕ → L → Register L → Register L
  given_back c link r = record { asked = r.asked; closed = r.closed; links = back_behind (c - 1) link r.links }
