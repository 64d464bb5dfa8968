-- The mark, last.
use Rattle.std.proofs.Common.{◌≡◌, ℕ, zero, suc, ◌+◌, ◌≤◌, ◌<◌, nat_le, Bool, true, false, List, [], ◌∷◌, length, get_or, map, Option, Some, None, IfSome, IsTrue, refl, ap, sym, ◌∙◌, subst, arith, ◌-◌}
use Rattle.std.specs.Prelude.{replicate, option_map}
use Rattle.std.specs.List.{range_with_len, list_all}
use Rattle.std.proofs.lemmas.Bool.{and_parts}
use Rattle.std.proofs.lemmas.Bool.Decides.{nat_tests}
use Rattle.std.proofs.lemmas.List.FromFn.{get_or-map-range_with_len}
use Rattle.power_loss.specs.Due.{due_after}
use Rattle.power_loss.specs.Told.{Each, Rose}
use Rattle.power_loss.specs.Power.{Power, power_after}
use Rattle.nvm_device.specs.Bytes.{bytes_at, overwrite}
use Rattle.nvm_device.specs.Device.{DeviceState, written as written_state, Torn}
use Rattle.nvm_device.proofs.Row.{length-overwrite, bytes_at-bytes_at, bytes_at-overwrite, bytes_at-overwrite_above}
use Rattle.nvm_slots.specs.Laying.{Piece, FrontKept, Laid, Laying, Fell}
use Rattle.piv_model.specs.declared.start.Start.{Start}
use Rattle.piv_model.specs.Memory.{Memory, blocks_used, is_short}
use Rattle.piv_model.specs.Starts.{value_at, memory_of_start, SpellsMemory}
use Rattle.piv_model.specs.Sound.{IsSound}
use Rattle.card_image.specs.Header.{header_of}
use Rattle.card_image.specs.Forms.{Form, IsForm, StandsBehind}
use Rattle.card_image.specs.Images.{memory_of, budget_of, layout_of, IsImage}
use Rattle.card_image.specs.Looking.{IsBlank}
use Rattle.card_image.specs.Laying.{header_area, objects_area, values, LaidObjects, Done, header_pieces, HasLengths, SpellsReferences, NoOther, Personal}
use Rattle.card_image.proofs.HeaderLaid.{HeaderLaid, header_laid, laid_same, header_memory, header_layout, version_of}
use Rattle.card_image.proofs.Heads.{all_behind}
use Rattle.power_loss.proofs.EachLaws.{each_then, told_all}
use Rattle.power_loss.proofs.EachLaws.{each_map}

-- a row with zero bytes in front is no image
blank_no_image : (form : Form) (is_form : IsForm form) (row : List ℕ) → IsBlank row → IsImage form row → ⊥
unfolding header_of
blank_no_image form is_form row blank image =
    let both : form.mark ≡ replicate 4 0 = sym image.mark ∙ bytes_at-bytes_at row 0 8 0 4 (omega arith) ∙ blank in
    let first = ap (λ (l : List ℕ). get_or l 0 0) both in
    let is = is_form.mark_first in
    omega (arith, first, is)

-- four bytes in front of all that was laid
module _ (form : Form) (is_form : IsForm form) (first : Bool) (start : Start) (references : List ℕ) (lengths : HasLengths start) (written : SpellsReferences start references) (none : first ≡ true → (memory_of_start start).global ≡ None) (spells : SpellsMemory start) (old row1 row2 torn : List ℕ) (four : length torn ≡ 4) (end : ℕ) (laid : Laid header_area (header_pieces first start references) end old row1) (objects : LaidObjects form start.objects row1 row2) (enough : 1114112 ≤ length old) where
  abbrev row3 : List ℕ
  row3 = overwrite row2 0 torn

  size2 : length row2 ≡ length old
  size2 = objects.kept.size ∙ laid.kept.size

  fits : 0 + length torn ≤ length row2
  fits = omega (arith, size2, four, enough)

  size3 : length row3 ≡ length old
  size3 = length-overwrite row2 0 torn fits ∙ size2

  stands : StandsBehind row2 row3
  stands =
      let n = length row2 - 256 in
      record {
        size = length-overwrite row2 0 torn fits;
        behind = sym (all_behind row3 256 n (omega (arith, size3, size2))) ∙ bytes_at-overwrite_above row2 0 torn 256 n (omega (arith, four)) (omega (arith, size2, enough)) fits ∙ all_behind row2 256 n (omega arith);
      }

  part : (at n : ℕ) → 4 ≤ at → at + n ≤ 256 → bytes_at row3 at n ≡ bytes_at row1 at n
  part at n low high =
      let e : 0 + at ≡ at = omega arith in
      bytes_at-overwrite_above row2 0 torn at n (omega (arith, four)) (omega (arith, size2, enough)) fits
      ∙ ap (λ k. bytes_at row2 k n) (sym e) ∙ sym (bytes_at-bytes_at row2 0 256 at n high) ∙ ap (λ (l : List ℕ). bytes_at l at n) objects.kept.front ∙ bytes_at-bytes_at row1 0 256 at n high ∙ ap (λ k. bytes_at row1 k n) e

  header : HeaderLaid first start references row3
  header = laid_same first start references row1 row3 part (header_laid first start references row1 lengths written.size laid.holds)

  pub start_layout : layout_of row3 ≡ version_of first
  start_layout = header_layout first start references row3 lengths header

  pub start_memory : memory_of form row3 ≡ memory_of_start start
  unfolding values
  start_memory =
      header_memory first start references row3 lengths header written none (form.objects_of row3)
      ∙ (λ i. record (memory_of_start start) { objects = (is_form.objects_of row2 row3 stands ∙ objects.objects) i })

  pub start_image : torn ≡ form.mark → IsImage form row3
  unfolding values header_of
  start_image is =
      let memory = start_memory in
      let budget : budget_of row3 ≡ start.budget = ap (λ (m : Memory). m.budget) memory in
      let few : start.budget ≤ 2048 = (let parts = and_parts (nat_le 1 start.budget) (nat_le start.budget 2048) spells.sound.budget in let t = parts.1 in grind (arith, nat_tests)) in
      let room : blocks_used (values start.objects) ≤ start.budget = (let t = spells.sound.room in grind (arith, nat_tests)) in
      record {
        size = omega (arith, size3, enough);
        mark = bytes_at-bytes_at row3 0 8 0 4 (omega arith) ∙ ap (bytes_at row3 0) (sym four) ∙ bytes_at-overwrite row2 0 torn fits ∙ is;
        objects = record { few = omega (arith, budget, few); are = ap (λ b. form.are_objects b row3) budget ∙ is_form.are_objects start.budget row2 row3 stands ∙ objects.are start.budget room few };
        sound = subst IsSound (sym memory) spells.sound;
      }

-- ---- devices

kept_no_other : (form : Form) (is_form : IsForm form) (start : Start) (old row : List ℕ) → bytes_at row 0 4 ≡ bytes_at old 0 4 → NoOther form start old row
kept_no_other form is_form start old row front blank image = absurd (blank_no_image form is_form row (front ∙ blank) image)

module _ (form : Form) (is_form : IsForm form) (start : Start) where
  pub fell_head : (s t : DeviceState) → Fell (FrontKept header_area) s t → Fell (NoOther form start) s t
  fell_head s t fell = record { left = record { size = fell.left.size; bytes = go s.bytes t.bytes fell.left.bytes }; rose = fell.rose; power = fell.power }
    where
      go : (a b : Option (List ℕ)) → Each (FrontKept header_area) a b → Each (NoOther form start) a b
      go None None each = tt
      go (Some a) (Some b) each = kept_no_other form is_form start a b each.front
      go None (Some b) each = absurd each
      go (Some a) None each = absurd each

  pub fell_objects : (pieces : List Piece) (end : ℕ) (s t u : DeviceState) → Laying header_area pieces end s t → Fell (FrontKept objects_area) t u → Fell (NoOther form start) s u
  fell_objects pieces end s t u laying fell = record {
    left = record {
      size = fell.left.size ∙ laying.left.size;
      bytes = each_then (λ row. Unit {0}) (Laid header_area pieces end) (FrontKept objects_area) (NoOther form start)
          (λ a b d any laid kept. kept_no_other form is_form start a d (front_four d b kept ∙ laid.kept.front)) s.bytes t.bytes u.bytes (told_all (λ row. Unit {0}) (λ row. tt) s.bytes) laying.left.bytes fell.left.bytes;
    };
    rose = subst (λ n. Rose n u.power.losses) (ap (λ (p : Power). p.losses) laying.same) fell.rose;
    power = fell.power ∙ ap (λ (p : Power). record p { on = false; losses = u.power.losses; due = u.power.due }) laying.same;
  }
    where
      front_four : (new old : List ℕ) → FrontKept objects_area old new → bytes_at new 0 4 ≡ bytes_at old 0 4
      front_four new old kept = sym (bytes_at-bytes_at new 0 256 0 4 (omega arith)) ∙ ap (λ (l : List ℕ). bytes_at l 0 4) kept.front ∙ bytes_at-bytes_at old 0 256 0 4 (omega arith)

  module _ (first : Bool) (references : List ℕ) (lengths : HasLengths start) (written : SpellsReferences start references) (none : first ≡ true → (memory_of_start start).global ≡ None) (spells : SpellsMemory start) (end : ℕ) (s t u w : DeviceState) (enough : IfSome s.bytes (λ row. 1114112 ≤ length row)) (laying : Laying header_area (header_pieces first start references) end s t) (done : Done (LaidObjects form start.objects) t u) where
    all_laid : List ℕ → List ℕ → Type 0
    all_laid old new = (row1 : List ℕ) × ((1114112 ≤ length old) × (Laid header_area (header_pieces first start references) end old row1 × LaidObjects form start.objects row1 new))

    laid_there : Each all_laid s.bytes u.bytes
    unfolding all_laid
    laid_there = each_then (λ row. 1114112 ≤ length row) (Laid header_area (header_pieces first start references) end) (LaidObjects form start.objects) all_laid (λ a b d p laid objects. (b, (p, (laid, objects)))) s.bytes t.bytes u.bytes enough laying.left.bytes done.left.bytes

    pub marked : w ≡ written_state 1 0 form.mark u → Done (Personal form first start) s w
    unfolding all_laid
    marked is = subst (λ (w : DeviceState). Done (Personal form first start) s w) (sym is) (record {
      left = record {
        size = done.left.size ∙ laying.left.size;
        bytes = each_map all_laid (Personal form first start) (λ row. overwrite row 0 form.mark)
            (λ a d l. record {
              image = start_image form is_form first start references lengths written none spells a l.0 d form.mark is_form.mark_size end l.1.1.0 l.1.1.1 l.1.0 refl;
              memory = start_memory form is_form first start references lengths written none spells a l.0 d form.mark is_form.mark_size end l.1.1.0 l.1.1.1 l.1.0;
              layout = start_layout form is_form first start references lengths written none spells a l.0 d form.mark is_form.mark_size end l.1.1.0 l.1.1.1 l.1.0;
            }) s.bytes u.bytes laid_there;
      };
      same = ap (λ (p : Power). power_after 1 p) (done.same ∙ ap (λ (p : Power). record p { due = u.power.due }) laying.same);
      due = λ none. ap (option_map (due_after 1)) (done.due (laying.due none));
    })

    pub mark_lost : Torn 0 4 u w → Fell (NoOther form start) s w
    unfolding all_laid
    mark_lost lost = record {
      left = record {
        size = lost.left.size ∙ done.left.size ∙ laying.left.size;
        bytes = subst (λ told. Each (NoOther form start) s.bytes told) (sym lost.left.bytes) (each_map all_laid (NoOther form start) (λ row. overwrite row 0 lost.left.torn)
            (λ a d l blank image. start_memory form is_form first start references lengths written none spells a l.0 d lost.left.torn lost.left.same_size end l.1.1.0 l.1.1.1 l.1.0) s.bytes u.bytes laid_there);
      };
      rose = subst (λ n. Rose n w.power.losses) (ap (λ (p : Power). p.losses) done.same ∙ ap (λ (p : Power). p.losses) laying.same) lost.rose;
      power =
          let due = ap (λ (p : Power). p.due) lost.power in
          lost.power ∙ ap (λ (p : Power). record p { on = false; losses = w.power.losses; due = option_map (due_after 1) u.power.due }) (done.same ∙ ap (λ (p : Power). record p { due = u.power.due }) laying.same)
          ∙ (λ i. record s.power { on = false; losses = w.power.losses; due = sym due i });
    }

at_short : (objects : List (List ℕ)) (k : ℕ) → IsTrue (list_all is_short objects) → length (get_or objects k []) ≤ 16384
at_short [] k all = omega arith
at_short (o ∷ objects) zero all = (let parts = and_parts (is_short o) (list_all is_short objects) all in let t = parts.0 in grind (arith, nat_tests))
at_short (o ∷ objects) (suc k) all = at_short objects k (and_parts (is_short o) (list_all is_short objects) all).1

pub values_short : (start : Start) → SpellsMemory start → (k : ℕ) → k < 33 → length (value_at start.objects k) ≤ 16384
values_short start spells k low = subst (λ (v : List ℕ). length v ≤ 16384) (get_or-map-range_with_len (value_at start.objects) 0 33 k k [] low (omega arith)) (at_short (map (value_at start.objects) (range_with_len 0 33)) k spells.sound.lengths)

pub values_room : (start : Start) → SpellsMemory start → blocks_used (values start.objects) ≤ 2048
unfolding values
values_room start spells =
    let parts = and_parts (nat_le 1 start.budget) (nat_le start.budget 2048) spells.sound.budget in
    let t = parts.1 in
    let few : start.budget ≤ 2048 = grind (arith, nat_tests) in
    let r = spells.sound.room in
    let room : blocks_used (map (value_at start.objects) (range_with_len 0 33)) ≤ start.budget = grind (arith, nat_tests) in
    omega (arith, few, room)
