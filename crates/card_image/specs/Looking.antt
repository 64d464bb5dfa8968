-- What each part of an image has to be.
use Rattle.std.specs.Prelude.{◌≡◌, ℕ, ◌==◌, ◌&&◌, ◌||◌, Bool, List, replicate, slice_index, IfSome, ⊤}
use Rattle.nvm_device.specs.Bytes.{bytes_at}
use Rattle.nvm_device.specs.Device.{DeviceState}
use Rattle.piv_model.specs.Forms.{is_pin}
use Rattle.piv_model.specs.Sound.{is_limited, is_algorithm}
use Rattle.piv_model.specs.declared.found.Found.{Found}
use Rattle.piv_model.specs.declared.found.Found.TheVariants.{Blank, BadImage, Card}
use Rattle.card_image.specs.Header.{reference_in}
use Rattle.card_image.specs.Forms.{Form}
use Rattle.card_image.specs.Images.{IsImage}

abbrev pub are_references : List ℕ → Bool
are_references bytes =
    is_limited (reference_in bytes 0) && is_limited (reference_in bytes 10) && is_pin (bytes_at bytes 2 8)
    && ((slice_index bytes 20 == 0) || (is_limited (reference_in bytes 20) && is_pin (bytes_at bytes 22 8)))

abbrev pub are_keys : List ℕ → Bool
are_keys bytes = is_algorithm (slice_index bytes 0) && is_algorithm (slice_index bytes 33)

-- the first four bytes are zero
abbrev pub IsBlank : List ℕ → Type 0
IsBlank row = bytes_at row 0 4 ≡ replicate 4 0

-- what is so of the store that was found
abbrev pub IfCard : {S N : Type 0} → Found S N → (S → Type 0) → Type 0
IfCard (Blank n) P = ⊤
IfCard (BadImage n) P = ⊤
IfCard (Card c) P = P c

-- which it is, and the device as it was
abbrev pub Looks : {S N : Type 0} → Form → (N → DeviceState) → (S → N) → DeviceState → Found S N → Type 0
Looks form state device s (Blank n) = (state n ≡ s) × IfSome s.bytes IsBlank
Looks form state device s (BadImage n) = (state n ≡ s) × IfSome s.bytes (λ row. (IsBlank row → ⊥) × (IsImage form row → ⊥))
Looks form state device s (Card c) = (state (device c) ≡ s) × IfSome s.bytes (λ row. (IsBlank row → ⊥) × IsImage form row)
