-- A stored history with one more entry, and the entry at a place.
use Rattle.std.proofs.Common.{◌≡◌, ◌<◌, ◌≤◌, ℕ, List, [], ◌∷◌, ◌++◌, ◌+◌, length, take, drop, map, Some, None, refl, ap, sym, ◌∙◌, arith, length-drop}
use Rattle.std.specs.Prelude.{All, reverse, slice_get, slice_index_or, option_map}
use Rattle.std.proofs.lemmas.List.{take-append-le, drop-append-le, map_push, reverse-append, reverse-reverse}
use Rattle.std.proofs.lemmas.List.Elements.{All-head, All-tail}
use Rattle.std.proofs.lemmas.Option.{slice_get-map, slice_get-get_or}
use Rattle.piv_model.specs.declared.stored.StoredCommand.{StoredCommand}
use Rattle.piv_model.specs.declared.stored.StoredEntry.{StoredEntry}
use Rattle.piv_model.specs.declared.stored.StoredEntry.TheVariants as row
use Rattle.piv_model.specs.Entries.{Call, Cut}
use Rattle.piv_model.specs.Written.{command_in, entry_in, IsWithin, at_place}

-- more bytes in the buffer leave a command as it is
same_command : (bytes more : List ℕ) (s : StoredCommand) → s.from + s.size ≤ length bytes → command_in (bytes ++ more) s ≡ command_in bytes s
same_command bytes more s within =
    let body : take s.size (drop s.from (bytes ++ more)) ≡ take s.size (drop s.from bytes) =
    ap (take s.size) (drop-append-le s.from bytes more (omega arith))
    ∙ take-append-le s.size (drop s.from bytes) more (simp length-drop (omega arith)) in
    ap (λ (b : List ℕ). record { ins = s.ins; p1 = s.p1; p2 = s.p2; body = b }) body

same_row : (bytes more : List ℕ) (r : StoredEntry) → IsWithin (length bytes) r → entry_in (bytes ++ more) r ≡ entry_in bytes r
same_row bytes more (row.Call c span sw block) within = ap (λ k. Call c k sw block) (same_command bytes more span within)
same_row bytes more (row.Cut (Some r)) within = ap (λ k. Cut (Some (r.0, k))) (same_command bytes more r.1 within)
same_row bytes more (row.Cut None) within = refl
same_row bytes more (row.Opened c interface shared) within = refl
same_row bytes more (row.Closed c) within = refl
same_row bytes more (row.Part c) within = refl
same_row bytes more (row.Rest c) within = refl
same_row bytes more (row.Bad c sw) within = refl
same_row bytes more (row.Reset interface) within = refl
same_row bytes more (row.Up took) within = refl
same_row bytes more (row.Note act answer) within = refl

same_rows : (bytes more : List ℕ) (rows : List StoredEntry) → All (IsWithin (length bytes)) rows
    → map (entry_in (bytes ++ more)) rows ≡ map (entry_in bytes) rows
same_rows bytes more [] within = refl
same_rows bytes more (r ∷ rows) within =
    ap (λ e. e ∷ map (entry_in (bytes ++ more)) rows) (same_row bytes more r (All-head (IsWithin (length bytes)) r rows within))
    ∙ ap (λ es. entry_in bytes r ∷ es) (same_rows bytes more rows (All-tail (IsWithin (length bytes)) r rows within))

-- a row at the end of the rows is the newest entry
pub past-pushed : (bytes more : List ℕ) (rows : List StoredEntry) (r : StoredEntry) → All (IsWithin (length bytes)) rows
    → reverse (map (entry_in (bytes ++ more)) (rows ++ r ∷ [])) ≡ entry_in (bytes ++ more) r ∷ reverse (map (entry_in bytes) rows)
past-pushed bytes more rows r within =
    ap reverse (map_push (entry_in (bytes ++ more)) rows r)
    ∙ reverse-append (map (entry_in (bytes ++ more)) rows) (entry_in (bytes ++ more) r ∷ [])
    ∙ ap (λ es. entry_in (bytes ++ more) r ∷ reverse es) (same_rows bytes more rows within)

-- the row at a place is the entry there
pub at_place-stored : (bytes : List ℕ) (rows : List StoredEntry) (k : ℕ) (r : StoredEntry) → k < length rows → r ≡ slice_index_or rows k r
    → at_place (reverse (map (entry_in bytes) rows)) k ≡ Some (entry_in bytes r)
at_place-stored bytes rows k r within is =
    ap (λ es. slice_get es k) (reverse-reverse (map (entry_in bytes) rows))
    ∙ slice_get-map (entry_in bytes) rows k
    ∙ ap (option_map (entry_in bytes)) (slice_get-get_or rows k r within)
    ∙ ap (λ x. Some (entry_in bytes x)) (sym is)
