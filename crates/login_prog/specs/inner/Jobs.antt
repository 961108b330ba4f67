-- What the jobs of threads give.
use Rattle.std.specs.Prelude.{ℕ, ◌≡◌, List, Option, MatchOption}
use Rattle.login_base.specs.declared.ids.Uid.{Uid}
use Rattle.login_edge.specs.Exchanges.{Exchange}
use Rattle.login_model.specs.declared.mark.Entry.{Entry}
use Rattle.login_model.specs.declared.setup.Setup.{Setup}
use Rattle.login_office.specs.declared.end.LinkEnd.{LinkEnd}
use Rattle.desk.specs.Passes.{PassState}
use Rattle.link_serve.specs.Serving.{Served}
use Rattle.login_prog.specs.inner.Input.{WasRead}
use Rattle.login_prog.specs.declared.serve.reader_job.ReaderEnd.{ReaderEnd}

abbrev pub PassOfCore : Type 0
PassOfCore = PassState Setup Entry

module _ {L : Type 0} (number : L → ℕ) (talk : L → Option (List Exchange)) (left : L → Option (List ℕ)) (faults : L → ℕ) where
  -- what a link's job gives: the link was served by its pass, or both are as they were
  pub record LinkGives (u : Uid) (before : PassOfCore) (old : L) (after : PassOfCore) (new : L) (e : Option LinkEnd) : Type 0 where
    pub desk : after.desk ≡ before.desk
    pub numbered : number new ≡ number old
    pub outcome : MatchOption e ((after.view ≡ before.view) × (new ≡ old)) (λ x. Served u before.view after.view (talk old) (talk new) (left old) (left new) (faults old) (faults new) x)

module _ {S : Type 0} (left : S → Option (List ℕ)) (faults : S → ℕ) where
  -- what the reader's job gives: the input was read, or it and the pass are as they were
  pub record ReaderGives (count : ℕ) (all : Option (List ℕ)) (before : PassOfCore) (old : S) (after : PassOfCore) (new : S) (e : Option ReaderEnd) : Type 0 where
    pub desk : after.desk ≡ before.desk
    pub outcome : MatchOption e ((after.view ≡ before.view) × (new ≡ old)) (λ x. WasRead count before.view after.view all (left new) (faults old) (faults new) x)
