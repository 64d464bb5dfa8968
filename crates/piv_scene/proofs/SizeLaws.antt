-- Sizes of lines, one line and one script after the other.
use Rattle.std.proofs.Common.{◌≡◌, ℕ, ◌+◌, ◌<◌, ◌≤◌, Bool, true, false, List, [], ◌∷◌, ◌++◌, length, take, drop, get_or, Some, refl, sym, ap, ◌∙◌, arith}
use Rattle.std.specs.Prelude.{◌||◌, nat_lt, slice_get}
use Rattle.std.proofs.lemmas.List.{drop_all, drop_more, take_more, take-append-drop, append-nil}
use Rattle.std.proofs.lemmas.List.Sums.{sum_by_more, sum_by-take-le, sum_by-append}
use Rattle.std.proofs.lemmas.List.Concat.{flat_map-append}
use Rattle.std.proofs.lemmas.Option.{get_or_from_slice_get}
use Rattle.script_line.specs.declared.line.Line.{Line}
use Rattle.script_line.specs.Scripts.{ScriptData}
use Rattle.piv_scene.specs.declared.sizes.Size.{Size}
use Rattle.piv_scene.specs.SceneLimits.{any_above, size_of, put_size, puts, all_lines}

-- one line more
pub above-next : (most : ℕ) (kind : Size) (lines : List Line) (k : ℕ) (x : Line) → k < length lines → slice_get lines k ≡ Some x → nat_lt most (size_of kind x) ≡ false
    → any_above most kind (drop k lines) ≡ any_above most kind (drop (k + 1) lines)
above-next most kind lines k x h at small = rw (drop_more lines k x h, get_or_from_slice_get lines k x x at, small) refl

pub above-found : (most : ℕ) (kind : Size) (lines : List Line) (k : ℕ) (x : Line) → k < length lines → slice_get lines k ≡ Some x → nat_lt most (size_of kind x) ≡ true
    → any_above most kind (drop k lines) ≡ true
above-found most kind lines k x h at large = rw (drop_more lines k x h, get_or_from_slice_get lines k x x at, large) refl

-- one script more
pub any-append : (most : ℕ) (kind : Size) (xs ys : List Line) → any_above most kind (xs ++ ys) ≡ (any_above most kind xs || any_above most kind ys)
any-append most kind [] ys = refl
any-append most kind (x ∷ xs) ys = or_step (nat_lt most (size_of kind x)) (any_above most kind xs) (any_above most kind ys) (any_above most kind (xs ++ ys)) (any-append most kind xs ys)
  where
    or_step : (a b c d : Bool) → d ≡ (b || c) → (a || d) ≡ ((a || b) || c)
    or_step true b c d h = refl
    or_step false b c d h = h

pub script-next : (most : ℕ) (kind : Size) (scripts : List ScriptData) (i : ℕ) (x : ScriptData) → i < length scripts → x ≡ get_or scripts i x
    → any_above most kind (all_lines (drop i scripts)) ≡ (any_above most kind x.lines || any_above most kind (all_lines (drop (i + 1) scripts)))
script-next most kind scripts i x h at_i = rw (drop_more scripts i x h, ← at_i) (any-append most kind x.lines (all_lines (drop (i + 1) scripts)))

pub script-end : (most : ℕ) (kind : Size) (scripts : List ScriptData) (i : ℕ) → length scripts ≤ i → any_above most kind (all_lines (drop i scripts)) ≡ false
script-end most kind scripts i h = rw (drop_all i scripts h) refl

pub puts-more : (lines : List Line) (k : ℕ) (x : Line) → k < length lines → slice_get lines k ≡ Some x → puts (take (k + 1) lines) ≡ puts (take k lines) + put_size x
puts-more lines k x h at = sum_by_more put_size lines k x h ∙ ap (λ (l : Line). puts (take k lines) + put_size l) (get_or_from_slice_get lines k x x at)

pub puts-within : (lines : List Line) (k : ℕ) → puts (take k lines) ≤ puts lines
puts-within lines k = sum_by-take-le put_size lines k

pub puts-next : (scripts : List ScriptData) (i : ℕ) (x : ScriptData) → i < length scripts → x ≡ get_or scripts i x
    → puts (all_lines (take (i + 1) scripts)) ≡ puts (all_lines (take i scripts)) + puts x.lines
puts-next scripts i x h at_i =
    ap (λ (s : List ScriptData). puts (all_lines s)) (take_more scripts i x h ∙ ap (λ (y : ScriptData). take i scripts ++ y ∷ []) (sym at_i))
    ∙ ap puts (flat_map-append (λ (s : ScriptData). s.lines) (take i scripts) (x ∷ []))
    ∙ sum_by-append put_size (all_lines (take i scripts)) (x.lines ++ [])
    ∙ ap (λ (l : List Line). puts (all_lines (take i scripts)) + puts l) (append-nil x.lines)

pub puts_scripts-within : (scripts : List ScriptData) (i : ℕ) → puts (all_lines (take i scripts)) ≤ puts (all_lines scripts)
puts_scripts-within scripts i =
    let cut : puts (all_lines scripts) ≡ puts (all_lines (take i scripts)) + puts (all_lines (drop i scripts)) =
    ap (λ (s : List ScriptData). puts (all_lines s)) (sym (take-append-drop i scripts))
    ∙ ap puts (flat_map-append (λ (s : ScriptData). s.lines) (take i scripts) (drop i scripts))
    ∙ sum_by-append put_size (all_lines (take i scripts)) (all_lines (drop i scripts)) in
    omega (arith, cut)
