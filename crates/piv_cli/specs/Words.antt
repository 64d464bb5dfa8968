-- The words of the program, and the commands that they are (this project's own).
use Rattle.std.specs.Prelude.{ℕ, ◌&&◌, nat_le, Bool, true, false, List, [], ◌∷◌, map, codes, Option, Some, None, if◌then◌else◌}
use Rattle.std.specs.Str.{bytes_eq}
use Rattle.std.specs.String.{string_bytes}
use Rattle.std.specs.declared.string.String.{String}
use Rattle.std.specs.declared.alloc.Global.{Global}
use Rattle.line_words.specs.Words.{◌>>=◌, number_word}
use Rattle.piv_cli.specs.declared.words.Request.{Request}
use Rattle.piv_cli.specs.declared.words.Request.TheVariants.{Apdu, Bench, Run, Make, Help, Version}

-- each text as its bytes
abbrev pub texts : List (String Global) → List (List ℕ)
texts words = map string_bytes words

-- the command that one word names
abbrev pub named : List ℕ → Option Request
named word =
    if bytes_eq word (codes "apdu") then Some Apdu
    else if bytes_eq word (codes "bench") then Some Bench
    else if bytes_eq word (codes "run") then Some Run
    else if bytes_eq word (codes "--help") then Some Help
    else if bytes_eq word (codes "--version") then Some Version
    else None

-- how many lines are to be made: 1 to 4,000
abbrev pub lines_wanted : ℕ → Option ℕ
lines_wanted n = if nat_le 1 n && nat_le n 4000 then Some n else None

-- `make` wants that number, and any number of 64 bits
abbrev pub made : List ℕ → List ℕ → Option Request
made lines number = do
  n ← number_word lines >>= lines_wanted
  seed ← number_word number
  Some (Make n seed)

-- the command that the words are
unfoldable pub asked_for : List (List ℕ) → Option Request
asked_for (word ∷ []) = named word
asked_for (word ∷ lines ∷ number ∷ []) = if bytes_eq word (codes "make") then made lines number else None
asked_for _ = None

-- `plain` has no threads: it serves every command but `run`
abbrev pub but_run : Option Request → Option Request
but_run (Some Run) = None
but_run asked = asked

-- the command that the words are to `plain`
unfoldable pub plainly_asked : List (List ℕ) → Option Request
plainly_asked words = but_run (asked_for words)

-- the commands that run the scene of the input, those that read the input, and those that personalise devices
abbrev pub runs_scene : Option Request → Bool
runs_scene (Some Bench) = true
runs_scene (Some Run) = true
runs_scene _ = false

abbrev pub reads_input : Option Request → Bool
reads_input (Some Apdu) = true
reads_input (Some Bench) = true
reads_input (Some Run) = true
reads_input _ = false

abbrev pub uses_devices : Option Request → Bool
uses_devices (Some Apdu) = true
uses_devices (Some Bench) = true
uses_devices (Some Run) = true
uses_devices (Some (Make n seed)) = true
uses_devices _ = false
