-- A script: its name and its lines (this project's own).
use Rattle.std.specs.Prelude.{ℕ, List}
use Rattle.script_line.specs.declared.line.Line.{Line}

pub record ScriptData : Type 0 where
  pub name : List ℕ
  pub lines : List Line
