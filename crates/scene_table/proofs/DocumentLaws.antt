-- Documents.
use Rattle.std.proofs.Common.{◌≡◌, ℕ, Bool, true, false, List, Option, Some, None, refl, sym}
use Rattle.std.proofs.lemmas.Str.{IsUtf8-from_is_utf8, is_utf8-from_IsUtf8}
use Rattle.std.specs.Prelude.{IsUtf8, if◌then◌else◌}
use Rattle.std.specs.Str.{is_utf8}
use Rattle.toml.specs.Data.{Members}
use Rattle.toml.specs.Parse.{parse_document}
use Rattle.scene_table.specs.Readings.{document}

pub document-found : (bytes : List ℕ) (t : Members) → IsUtf8 bytes → parse_document bytes ≡ Some t → Some t ≡ document bytes
document-found bytes t u h = rw (is_utf8-from_IsUtf8 bytes u) (sym h)

absent : (b : Bool) (o : Option Members) → (b ≡ true → o ≡ None) → None ≡ (if b then o else None)
absent true o h = sym (h refl)
absent false o h = refl

pub document-absent : (bytes : List ℕ) → (IsUtf8 bytes → parse_document bytes ≡ None) → None ≡ document bytes
document-absent bytes h = absent (is_utf8 bytes) (parse_document bytes) (λ u. h (IsUtf8-from_is_utf8 bytes u))
