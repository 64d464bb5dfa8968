-- What a turn does, and what a turnstile holds when it is closed.
use Rattle.std.specs.Prelude.{◌≡◌, ◌≤◌, List, length, Option}
use Rattle.turnstile.specs.Records.{followed, placed, InPlace, Rises}
use Rattle.turnstile.specs.Known.{Known, after_turn}

module _ {X B E J O : Type 0} (stands_for : X → B → List E → Type 0) where
  -- The job found a value that stands for the base and a list of records. They are at least as many as the pass
  -- had seen, and each of its own stands there at its place. The record that the job made, if there is one, is
  -- the pass's own at the end of that list
  pub record Turned (ran : J → X → O → X → Type 0) (made : J → O → X → Option E) (base : B) (job : J) (answer : O) (before after : Known B E) : Type 0 where
    pub found : X
    pub left : X
    pub records : List E
    pub stood : stands_for found base records
    pub seen : before.seen ≤ length records
    pub own : InPlace before.own records
    pub rises : Rises before.seen before.own
    pub run : ran job found answer left
    pub stands : stands_for left base (followed records (made job answer left))
    pub knows : after ≡ after_turn before (length records) (made job answer left)

module _ {X B E : Type 0} (stands_for : X → B → List E → Type 0) where
  -- the value stands for the base and a list of records, each of which is the pass's own at its place
  pub record Closed (base : B) (value : X) (pass : Known B E) : Type 0 where
    pub records : List E
    pub stands : stands_for value base records
    pub own : pass.own ≡ placed 0 records
    pub seen : pass.seen ≡ length records
