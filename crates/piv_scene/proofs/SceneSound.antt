-- What is known of a scene that reads and passes no limit.
use Rattle.std.proofs.Common.{◌≡◌, ℕ, zero, suc, ◌<◌, ◌≤◌, Bool, true, false, Option, List, [], ◌∷◌, ◌++◌, length, map, Some, None, Result, Ok, Err, refl, sym, ap, subst}
use Rattle.std.specs.Prelude.{nat_lt, slice_get, IfOk, if◌then◌else◌}
use Rattle.std.specs.List.{AllByRecursion, IsDistinct}
use Rattle.std.specs.Str.{bytes_eq}
use Rattle.power_loss.specs.declared.loss.Loss.{Loss}
use Rattle.power_loss.specs.Due.{RisesFrom}
use Rattle.power_loss.specs.Plans.{write_numbers}
use Rattle.nvm_device.specs.declared.loss.How.{How}
use Rattle.piv_model.specs.declared.places.Where.{Where}
use Rattle.piv_model.specs.declared.places.Where.TheVariants as place
use Rattle.piv_model.specs.declared.places.Limit.{Limit}
use Rattle.piv_model.specs.declared.places.Limit.TheVariants as limit
use Rattle.piv_model.specs.declared.start.Start.{Start}
use Rattle.piv_model.specs.Starts.{SpellsMemory}
use Rattle.toml.specs.Data.{Members}
use Rattle.script_line.specs.Playable.{ArePlayable}
use Rattle.script_line.specs.Scripts.{ScriptData}
use Rattle.scene_table.specs.declared.fault.SceneFault.{SceneFault}
use Rattle.scene_table.specs.declared.fault.SceneFault.TheVariants as scene
use Rattle.scene_table.specs.Readings.{document}
use Rattle.scene_cards.specs.Cards.{CardData, card_names, reader_names, readers_of, cards_at}
use Rattle.scene_cards.specs.CardLimits.{cards_limit}
use Rattle.scene_cards.specs.CardValues.{CardValue, IsCard, AreCards, card_value}
use Rattle.scene_cards.proofs.CardSound.{cards_sound}
use Rattle.scene_cards.proofs.NamesSound.{cards-apart, cards-some}
use Rattle.scene_cards.proofs.Within.{both_none, not_passed, small}
use Rattle.piv_scene.specs.declared.sizes.Size.TheVariants as size
use Rattle.piv_scene.specs.Documents.{SceneData, or_at, raw_scripts_at, scripts_after, schedule_at, after_cards, with_document, scene_of}
use Rattle.piv_scene.specs.Outcomes.{limited, judged, outcome, Answers}
use Rattle.piv_scene.specs.SceneLimits.{all_lines, any_above, puts, first_limit}
use Rattle.piv_scene.specs.SceneValues.{SceneValue, scene_value, names_of_cards, names_of_readers, IsScriptOf, IsScene}
use Rattle.piv_scene.proofs.LinesSound.{got, same_ok, AreRead, scripts-read, places-below, AreShort, scripts-sound}

-- ---- the scripts and the schedule

record AreScripts (d : SceneData) : Type 0 where
  pub scripts : AreRead d.cards d.scripts
  pub schedule : AllByRecursion (λ k. k < length d.scripts) d.schedule

rest-sound : (doc : Members) (cards : List CardData) (p : List ScriptData × List ℕ) → after_cards cards doc ≡ Ok p
    → AreScripts (record { cards = cards; scripts = p.0; schedule = p.1 })
rest-sound doc cards p h =
    let raws = got (raw_scripts_at doc) _ p h in
    let scripts = got (scripts_after cards [] raws.value) _ p raws.next in
    let schedule = got (schedule_at (length scripts.value) doc) _ p scripts.next in
    subst (λ (x : List ScriptData × List ℕ). AreScripts (record { cards = cards; scripts = x.0; schedule = x.1 }))
    (same_ok _ (scripts.value, schedule.value) p refl schedule.next)
    (record {
      scripts = scripts-read cards [] raws.value scripts.value tt scripts.first;
      schedule = places-below (length scripts.value) doc schedule.value schedule.first;
    })

-- ---- the limits

record IsWithin (d : SceneData) : Type 0 where
  pub cards : length d.cards ≤ 8
  pub scripts : length d.scripts ≤ 64
  pub lines : length (all_lines d.scripts) ≤ 4096
  pub schedule : length d.schedule ≤ 65536
  pub each_card : cards_limit d.cards ≡ None
  pub short : AreShort (all_lines d.scripts)

within : (d : SceneData) → first_limit d ≡ None → IsWithin d
within d none =
    let counts = both_none _ _ none in
    let others = both_none (cards_limit d.cards) _ counts.1 in
    let cards = not_passed (nat_lt 8 (length d.cards)) limit.Cards _ counts.0 in
    let scripts = not_passed (nat_lt 64 (length d.scripts)) limit.Scripts _ cards.1 in
    let lines = not_passed (nat_lt 4096 (length (all_lines d.scripts))) limit.Lines _ scripts.1 in
    let schedule = not_passed (nat_lt 65536 (length d.schedule)) limit.Schedule _ lines.1 in
    let put = not_passed (any_above 16512 size.Put (all_lines d.scripts)) limit.Put _ others.1 in
    let total = not_passed (nat_lt 16777216 (puts (all_lines d.scripts))) limit.Puts _ put.1 in
    let crypt = not_passed (any_above 255 size.Crypt (all_lines d.scripts)) limit.Crypt _ total.1 in
    let apdu = not_passed (any_above 512 size.Apdu (all_lines d.scripts)) limit.Apdu _ crypt.1 in
    let login = not_passed (any_above 2128 size.Login (all_lines d.scripts)) limit.Login _ apdu.1 in
    let aid = not_passed (any_above 16 size.Aid (all_lines d.scripts)) limit.Aid _ login.1 in
    record {
      cards = small 8 (length d.cards) cards.0;
      scripts = small 64 (length d.scripts) scripts.0;
      lines = small 4096 (length (all_lines d.scripts)) lines.0;
      schedule = small 65536 (length d.schedule) schedule.0;
      each_card = others.0;
      short = record { put = put.0; crypt = crypt.0; apdu = apdu.0; aid = aid.0 };
    }

-- ---- the names

same_names : (cards : List CardData) → card_names cards ≡ names_of_cards (map card_value cards)
same_names [] = refl
same_names (c ∷ cards) = ap (λ (l : List (List ℕ)). c.name ∷ l) (same_names cards)

same_readers : (cards : List CardData) → reader_names cards ≡ names_of_readers (map card_value cards)
same_readers [] = refl
same_readers (c ∷ cards) = ap (λ (l : List (List ℕ)). readers_of c ++ l) (same_readers cards)

same_length : (cards : List CardData) → length cards ≡ length (map card_value cards)
same_length [] = refl
same_length (c ∷ cards) = ap suc (same_length cards)

-- ---- the whole

-- what is known of a document that reads
pub document-sound : (doc : Members) (d : SceneData) → with_document doc ≡ Ok d → first_limit d ≡ None → IsScene (scene_value d)
document-sound doc d h none =
    let cards = got (cards_at doc) _ d h in
    let rest = got (after_cards cards.value doc) _ d cards.next in
    let same = same_ok _ (record { cards = cards.value; scripts = rest.value.0; schedule = rest.value.1 }) d refl rest.next in
    let read : cards_at doc ≡ Ok d.cards = subst (λ (x : SceneData). cards_at doc ≡ Ok x.cards) same cards.first in
    let scripts = subst AreScripts same (rest-sound doc cards.value rest.value rest.first) in
    let in' = within d none in
    let apart = cards-apart doc d.cards read in
    record {
      cards = cards_sound doc d.cards read in'.each_card;
      some_cards = subst (λ (n : ℕ). 1 ≤ n) (same_length d.cards) (cards-some doc d.cards read);
      few_cards = subst (λ (n : ℕ). n ≤ 8) (same_length d.cards) in'.cards;
      card_names = subst (λ (l : List (List ℕ)). IsDistinct bytes_eq l) (same_names d.cards) apart.names;
      reader_names = subst (λ (l : List (List ℕ)). IsDistinct bytes_eq l) (same_readers d.cards) apart.readers;
      scripts = subst (λ (l : List (List ℕ)). AllByRecursion (IsScriptOf l (names_of_readers (map card_value d.cards))) d.scripts) (same_names d.cards)
          (subst (λ (l : List (List ℕ)). AllByRecursion (IsScriptOf (card_names d.cards) l) d.scripts) (same_readers d.cards)
          (scripts-sound d.cards d.scripts in'.short scripts.scripts));
      few_scripts = in'.scripts;
      few_lines = in'.lines;
      schedule = scripts.schedule;
      few_places = in'.schedule;
    }

-- what is answered for the bytes of a scene
limited-sound : (o : Option Limit) (d : SceneData) (s : SceneValue)
    → (o ≡ None → IsScene (scene_value d)) → limited o d ≡ Ok s → IsScene s
limited-sound None d s sound h = subst IsScene (same_ok (limited None d) (scene_value d) s refl h) (sound refl)
limited-sound (Some l) d s sound h = cc

judged-sound : (r : Result SceneData Where) (s : SceneValue) → ((d : SceneData) → r ≡ Ok d → first_limit d ≡ None → IsScene (scene_value d))
    → judged r ≡ Ok s → IsScene s
judged-sound (Ok d) s sound h = limited-sound (first_limit d) d s (sound d refl) h
judged-sound (Err w) s sound h = cc

not_long : {A : Type 0} (b : Bool) (x : A) (e : SceneFault) (r : Result A SceneFault) → (if b then Err e else r) ≡ Ok x → r ≡ Ok x
not_long true x e r h = cc
not_long false x e r h = h

pub answers_sound : (bytes : List ℕ) (r : Result SceneValue SceneFault) → Answers r (outcome bytes) → IfOk r IsScene
answers_sound bytes (Ok s) h =
    judged-sound (scene_of bytes) s
    (λ d read none. let doc = got (or_at place.NotToml (document bytes)) with_document d read in document-sound doc.value d doc.next none)
    (not_long (nat_lt 8388608 (length bytes)) s (scene.TooLarge limit.Input) (judged (scene_of bytes)) h)
answers_sound bytes (Err e) h = tt

-- ---- one of many

value_of : {A : Type 0} (x y : A) → Some x ≡ Some y → x ≡ y
value_of x y h = cc

-- a card among them
card-at : (cards : List CardValue) (k : ℕ) (c : CardValue) → AreCards cards → slice_get cards k ≡ Some c → IsCard c
card-at [] k c all h = cc
card-at (x ∷ cards) zero c all h = subst IsCard (value_of x c h) all.0
card-at (x ∷ cards) (suc k) c all h = card-at cards k c all.1 h

pub start-spells : (cards : List CardValue) (k : ℕ) (c : CardValue) (start : Start) → AreCards cards → slice_get cards k ≡ Some c → start ≡ c.start → SpellsMemory start
start-spells cards k c start all found same = subst SpellsMemory (sym same) (card-at cards k c all found).spells

pub plan-rises : (cards : List CardValue) (k : ℕ) (c : CardValue) (plan : List (Loss How)) → AreCards cards → slice_get cards k ≡ Some c → plan ≡ c.plan → RisesFrom 0 (write_numbers plan)
plan-rises cards k c plan all found same = subst (λ (p : List (Loss How)). RisesFrom 0 (write_numbers p)) (sym same) (card-at cards k c all found).rises

-- a script among them
pub script-plays : (cards readers : List (List ℕ)) (scripts : List ScriptData) (k : ℕ) (s : ScriptData) → AllByRecursion (IsScriptOf cards readers) scripts
    → slice_get scripts k ≡ Some s → ArePlayable s.lines
script-plays cards readers [] k s all h = cc
script-plays cards readers (x ∷ scripts) zero s all h = subst (λ (y : ScriptData). ArePlayable y.lines) (value_of x s h) all.0.playable
script-plays cards readers (x ∷ scripts) (suc k) s all h = script-plays cards readers scripts k s all.1 h
