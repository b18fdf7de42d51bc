-- A column file is answered as its row file, and placed it is the columns of the placed row file.
use Rattle.format.specs.declared.Head.{Head}
use Prim.Native.Nat.{ℕ, ◌<◌}
use mathlib.Core.Path.{◌≡◌, refl, sym, ap, ◌∙◌, subst}
use mathlib.Core.Logic.{◌⊎◌, inl, inr, ◌≢◌}
use mathlib.Core.Bool.{true, false, true≢false}
use mathlib.Core.List.{List, ◌∷◌}
use lib.ListN.{length}
use Rattle.format.specs.Header.{has_juniors, head_at, version_at, head_of, room_for}
use Rattle.std.specs.Prelude.{Result, Ok, Err}
use Rattle.format.specs.Contents.{Contents, contents_of}
use Rattle.format.specs.Writing.{encoded}
use Rattle.format.proofs.HeadLaws.{Headed}
use Rattle.format.proofs.ContentsLaws.{roles_held, juniors_held}
use Rattle.checking.specs.Check.{reading_names}
use Rattle.notices.specs.Notices.{is_sound, plan_in_force}
use Rattle.states.specs.declared.Turn.{Turn}
use Rattle.groups.specs.Groups.{starts_of, placed_contents}
use Rattle.placing.specs.Placing.{turns_for, bytes_by, placing, placed_bytes, placed_over}
use Rattle.hours.specs.Hours.{shut}
use Rattle.placing_at.specs.PlaceAt.{open_contents, placing_at, placed_bytes_at, placed_over_at}
use Rattle.reading.proofs.ReadingLaws.{refused_by_head}
use Rattle.reading_exact.specs.Lists.{All}
use Rattle.reading_exact.proofs.Places.{encoded_back}
use Rattle.turning.specs.Turning.{head_number, in_columns, in_rows, turning}
use Rattle.turning_exact.proofs.Turned.{turned_holds, turned_length, turned_version, turned_headed, turned_read, turned_clean, there_and_back, same_head_refusals}
use Rattle.engine.specs.Alike.{AlikeBesideBytes, Alike, ColumnsOf}
use Rattle.engine.proofs.SameContents.{wanted, over_alike, alike_beside_bytes}
use Rattle.engine.proofs.Unread.{loud_head, unread_alike}

-- a version with masks of juniors wants as much output as the other
room_large : (h : List ℕ) → Headed h → has_juniors (version_at h) ≡ true → room_for h ≡ 6908
room_large h d has = go (wanted h d)
  where
    go : ((has_juniors (version_at h) ≡ false) × (room_for h ≡ 6874)) ⊎ ((has_juniors (version_at h) ≡ true) × (room_for h ≡ 6908)) → room_for h ≡ 6908
    go (inl (none, room)) = absurd (true≢false (sym has ∙ none))
    go (inr (some, room)) = room

module _ (f : List ℕ) (d : Headed f) (two : version_at f ≡ 2) where
  abbrev c : List ℕ
  c = in_columns f

  has : has_juniors (version_at f) ≡ true
  has = ap has_juniors two

  holds : contents_of c ≡ contents_of f
  holds = turned_holds f 3 refl

  answers : AlikeBesideBytes c f
  answers =
      alike_beside_bytes c f (turned_read f 3 d has refl) holds
      (room_large c (turned_headed f 3 d has refl) (ap has_juniors (turned_version f 3)) ∙ sym (room_large f d has))

  -- whatever the turns
  bytes_turned : (turns : Contents → List Turn) → bytes_by (version_at c) (contents_of c) (turns (contents_of c)) ≡ in_columns (bytes_by (version_at f) (contents_of f) (turns (contents_of f)))
  bytes_turned turns =
      let ts : List Turn = turns (contents_of f) in
      let P : Contents = placed_contents (contents_of f) ts (starts_of ts) in
      let back : contents_of (encoded (version_at f) P) ≡ P =
      ap (λ (v : ℕ). contents_of (encoded v P)) two ∙ encoded_back 2 P (inl (refl, juniors_held f (head_at f) ∙ sym (roles_held f (head_at f)))) in
      (λ i. bytes_by (turned_version f 3 i) (holds i) (turns (holds i))) ∙ ap (encoded 3) (sym back)

  placed_turned : placed_bytes c ≡ in_columns (placed_bytes f)
  unfolding placed_bytes
  placed_turned = bytes_turned turns_for

  placed_turned_at : (t : List ℕ) (m : ℕ) → placed_bytes_at c t m ≡ in_columns (placed_bytes_at f t m)
  unfolding placed_bytes_at
  placed_turned_at t m = bytes_turned (λ (C : Contents). turns_for (open_contents (shut t m) C))

  pub columns_of : ColumnsOf c f
  unfolding placed_over placed_over_at
  columns_of = record {
    answers = answers;
    placed = placed_turned;
    over = λ out. over_alike (placed_bytes c) (in_columns (placed_bytes f)) (placing c (length out)) (placing f (length out)) (answers.place (length out)) placed_turned out;
    placed_at = placed_turned_at;
    over_at = λ t m out.
        over_alike (placed_bytes_at c t m) (in_columns (placed_bytes_at f t m)) (placing_at c t m (length out)) (placing_at f t m (length out)) (answers.place_at t m (length out)) (placed_turned_at t m) out;
  }

-- of a version 2 file that turning takes, and of a version 3 file: it is the columns of its rows
pub columns_alike : (f : List ℕ) (room : ℕ) → (turning 2 f room).number ≡ 0 → ColumnsOf (in_columns f) f
columns_alike f room zero = let (l, d, two) = turned_clean 2 f room zero in columns_of f d two

pub rows_alike : (c : List ℕ) → All (λ b. b < 256) c → (room : ℕ) → (turning 3 c room).number ≡ 0 → ColumnsOf c (in_rows c)
rows_alike c bytes room zero =
    let (l, d, three) = turned_clean 3 c room zero in
    subst (λ (g : List ℕ). ColumnsOf g (in_rows c)) (there_and_back 3 2 refl refl c bytes room zero).1
    (columns_of (in_rows c) (turned_headed c 2 d (ap has_juniors three) refl) (turned_version c 2))

-- bytes of version 3 that 1 to 5 refuse, and the same of version 2
pub heads_refused : (bs : List ℕ) → head_number (head_of (3 ∷ 0 ∷ bs)) ≢ 0 → Alike (3 ∷ 0 ∷ bs) (2 ∷ 0 ∷ bs)
heads_refused bs bad =
    let f : List ℕ = 3 ∷ 0 ∷ bs in
    let g : List ℕ = 2 ∷ 0 ∷ bs in
    let n : ℕ = head_number (head_of f) in
    let by-f : head_of f ≡ Err n = by (head_of f) n refl bad in
    let by-g : head_of g ≡ Err n = by (head_of g) n (sym (same_head_refusals bs)) bad in
    unread_alike f g (refused_by_head f n by-f ∙ sym (refused_by_head g n by-g)) (loud_head g n by-g) refl
  where
    by : (a : Result Head ℕ) (n : ℕ) → head_number a ≡ n → n ≢ 0 → a ≡ Err n
    by (Ok h) n e bad = absurd (bad (sym e))
    by (Err m) n e bad = ap Err e

-- a notice is answered alike with a file that is as long and is read alike
notice_alike : (g f : List ℕ) → length g ≡ length f → reading_names g ≡ reading_names f → (a b c d : ℕ) (n : List ℕ) (day : ℕ)
    → (plan_in_force (a ∷ b ∷ c ∷ d ∷ g) n day ≡ plan_in_force (a ∷ b ∷ c ∷ d ∷ f) n day) × (plan_in_force n (a ∷ b ∷ c ∷ d ∷ g) day ≡ plan_in_force n (a ∷ b ∷ c ∷ d ∷ f) day)
unfolding plan_in_force is_sound
notice_alike g f long read a b c d n day = (rw (long, read), rw (long, read))

pub notices_alike : (f : List ℕ) (room : ℕ) → (turning 2 f room).number ≡ 0 → (a b c d : ℕ) (n : List ℕ) (day : ℕ)
    → (plan_in_force (a ∷ b ∷ c ∷ d ∷ in_columns f) n day ≡ plan_in_force (a ∷ b ∷ c ∷ d ∷ f) n day) × (plan_in_force n (a ∷ b ∷ c ∷ d ∷ in_columns f) day ≡ plan_in_force n (a ∷ b ∷ c ∷ d ∷ f) day)
notices_alike f room zero =
    let (l, d, two) = turned_clean 2 f room zero in
    notice_alike (in_columns f) f (turned_length f 3 d (ap has_juniors two) refl) (columns_alike f room zero).answers.answers.read
