-- Reading a file without a refusal of 1 to 8 is the same as its bytes being the encoding of a well formed file, and of exactly one.
use Prim.Native.Nat.{ℕ, zero, suc, ◌≤◌, ◌<◌}
use mathlib.Core.Path.{◌≡◌, refl, sym, ap, ap₂, ◌∙◌, subst}
use mathlib.Core.Logic.{◌⊎◌, inl, inr}
use mathlib.Core.Bool.{Bool, true, false}
use mathlib.Core.List.{List, [], ◌∷◌, map}
use Rattle.format.specs.Words.{word_at}
use Rattle.format.specs.Answers.{fine}
use Rattle.format.specs.Header.{has_juniors, as_read, head_at, version_at, from1, from2, from3, from4, from5, head_of}
use Rattle.format.specs.Sections.{juniors_of, node_spot, node_of}
use Rattle.format.specs.Contents.{Contents, tabled, contents_at, contents_of}
use Rattle.format.specs.Writing.{encoded}
use Rattle.format.specs.declared.Head.{Head}
use Rattle.format.proofs.ContentsLaws.{tabled_same, roles_held, juniors_held}
use Rattle.trees.specs.Shape.{shape_from}
use Rattle.reading.specs.Reading.{reading}
use Rattle.trees.specs.declared.Due.TheVariants.{Root}
use Rattle.reading.proofs.ReadingLaws.{reading_iff}
use Rattle.reading_exact.specs.Lists.{All}
use Rattle.reading_exact.specs.Tree.{Tree, flatten, height, Worded}
use Rattle.reading_exact.specs.File.{version_of, File, WellFormed, rooted, contents_for, encode, unplanned, ReadsAs, sent, nothing_sent}
use Rattle.reading_exact.proofs.Standing.{roots_in, roots_of}
use Rattle.reading_exact.proofs.ShapeComplete.{shape_complete}
use Rattle.reading_exact.proofs.ShapeSound.{shape_sound}
use Rattle.reading_exact.proofs.WordedTrees.{FieldsFit, worded_trees}
use Rattle.reading_exact.proofs.Bytes.{Word, small_words}
use Rattle.reading_exact.proofs.WholeFile.{bytes_back}
use Rattle.reading_exact.proofs.AllLaws.{all_map, all_both}
use Rattle.reading_exact.proofs.RecordsJudged.{Seated}
use Rattle.reading_exact.proofs.ContentsJudged.{ContentsFit, judged, not_refused}
use Rattle.reading_exact.proofs.FileContents.{trees_of, routines, length_rooted, roots_rooted, trees_routines, rooted_routines, all_rooted, all_trees}
use Rattle.reading_exact.proofs.FileContents.{file_of, formed_by, known, grants_held, version_held, single, reads_iff}
use Rattle.reading_exact.proofs.Places.{Formed}

-- a tree that a file may have
abbrev Fair : Tree → Type 0
Fair t = (height t ≤ 8) × Worded t

pub contents_fit : (F : File) → WellFormed F → ContentsFit (contents_for F)
contents_fit F w = record {
  few_users = w.few_users;
  few_roles = w.few_roles;
  few_kinds = w.few_kinds;
  few_channels = w.few_channels;
  few_sessions = rw (length_rooted 1 F.sessions) w.few_sessions;
  few_nodes = w.few_nodes;
  records = record {
    users_fit = w.users_fit;
    roles_fit = w.roles_fit;
    juniors_fit = w.juniors_fit;
    kinds_fit_lem = w.kinds_fit_lem;
    channels_fit = w.channels_fit;
    sessions_fit = (all_rooted (Seated F.users) 1 F.sessions).1 w.sessions_fit;
  };
  shape =
      ap (λ (l : List ℕ). shape_from 1 (flatten 1 (trees_of F.sessions)) (map Root l)) (roots_rooted 1 F.sessions)
      ∙ shape_complete (trees_of F.sessions) (all_map (λ t h. h.0) (trees_of F.sessions) ((all_trees Fair F.sessions).1 w.trees_fit));
}

formed : (F : File) → ContentsFit (contents_for F) → All Fair (trees_of F.sessions) → WellFormed F
formed F t fair = record {
  few_users = t.few_users;
  few_roles = t.few_roles;
  few_kinds = t.few_kinds;
  few_channels = t.few_channels;
  few_sessions = subst (λ (n : ℕ). n ≤ 32) (length_rooted 1 F.sessions) t.few_sessions;
  few_nodes = t.few_nodes;
  users_fit = t.records.users_fit;
  roles_fit = t.records.roles_fit;
  juniors_fit = t.records.juniors_fit;
  kinds_fit_lem = t.records.kinds_fit_lem;
  channels_fit = t.records.channels_fit;
  sessions_fit = (all_rooted (Seated F.users) 1 F.sessions).0 t.records.sessions_fit;
  trees_fit = (all_trees Fair F.sessions).0 fair;
}

-- the file that contents and trees make has these contents
same_contents : (v : ℕ) (C : Contents) (ts : List Tree) → Formed v C → C.nodes ≡ flatten 1 ts → roots_in C.sessions ≡ roots_of 1 ts → contents_for (file_of v C ts) ≡ C
same_contents v C ts formed nodes roots =
    let (roles, juniors) = grants_held v C formed in
    let sessions : rooted 1 (routines C.sessions ts) ≡ C.sessions = rooted_routines 1 C.sessions ts roots in
    let trees : flatten 1 (trees_of (routines C.sessions ts)) ≡ C.nodes = ap (flatten 1) (trees_routines 1 C.sessions ts roots) ∙ sym nodes in
    λ i. record { users = C.users; roles = roles i; juniors = juniors i; kinds = C.kinds; channels = C.channels; sessions = sessions i; nodes = trees i }

-- what is read is formed by the version that is read
pub read_formed : (f : List ℕ) → Formed (version_at f) (contents_of f)
unfolding contents_at
read_formed f = go (has_juniors (version_at f)) refl
  where
    h : Head
    h = head_at f

    go : (b : Bool) → has_juniors (version_at f) ≡ b → Formed (version_at f) (contents_of f)
    go true e = inl (e, juniors_held f h ∙ sym (roles_held f h))
    go false e = inr (e, tabled_same (juniors_of f h) (λ n. 0) 1 h.count.roles (λ j p q. rw e) ∙ ap (tabled (λ n. 0) 1) (sym (roles_held f h)))

-- the operands of the nodes read are words
read_fields : (f : List ℕ) (h : Head) → ((i : ℕ) → Word (word_at f i)) → All FieldsFit (contents_at f h).nodes
unfolding contents_at tabled
read_fields f h small = go 1 h.count.nodes
  where
    go : (i k : ℕ) → All FieldsFit (tabled (node_of f h) i k)
    go i zero = tt
    go i (suc k) = ((small (node_spot h i 1), small (node_spot h i 2)), go (suc i) k)

-- zero bytes and the file that they read as are answered alike
pub read_alike : (f : List ℕ) → reading (as_read f) ≡ reading f
unfolding reading head_of from1 from2 from3 from4 from5 contents_at tabled
read_alike [] = refl
read_alike (x ∷ xs) = refl

-- what is read is a file, and the bytes read as it
pub sound : (f : List ℕ) → All (λ b. b < 256) f → reading f ≡ fine → (F : File) × WellFormed F × ReadsAs f F
unfolding encode
sound f bytes e =
    let (d, body) = (reading_iff f).0 e in
    let v : ℕ = version_at f in
    let C : Contents = contents_of f in
    let form : Formed v C = read_formed f in
    let back : encoded v C ≡ as_read f = bytes_back f d bytes in
    let fit : ContentsFit C = judged v C form (subst (λ (g : List ℕ). reading g ≡ fine) (sym back) (read_alike f ∙ e)) in
    let (ts, nodes, roots, low) = shape_sound C.nodes (roots_in C.sessions) fit.shape in
    let F : File = file_of v C ts in
    let same : contents_for F ≡ C = same_contents v C ts form nodes roots in
    let version : version_of F.grants ≡ v = version_held v d.version C.roles C.juniors in
    let trees : trees_of F.sessions ≡ ts = trees_routines 1 C.sessions ts roots in
    let worded : All Worded ts = worded_trees 1 ts (subst (All FieldsFit) nodes (read_fields f (head_at f) (small_words f bytes))) in (
      F,
      formed F (subst ContentsFit (sym same) fit) (subst (All Fair) (sym trees) (all_both (λ t. height t ≤ 8) Worded ts low worded)),
      (reads_iff f F).1 (ap₂ encoded version same ∙ back),
    )

-- encode, then read, is not refused
pub complete : (F : File) → WellFormed F → reading (encode F) ≡ fine
unfolding encode
complete F w = not_refused (version_of F.grants) (contents_for F) (formed_by F) (known F) (contents_fit F w)

pub complete_read : (f : List ℕ) (F : File) → WellFormed F → ReadsAs f F → reading f ≡ fine
complete_read f F w r = sym (read_alike f) ∙ ap reading (sym ((reads_iff f F).0 r)) ∙ complete F w

-- no bytes read as two files, well formed or not
pub one_read : (f : List ℕ) (F G : File) → ReadsAs f F → ReadsAs f G → F ≡ G
one_read f F G r s = single F G ((reads_iff f F).0 r ∙ sym ((reads_iff f G).0 s))

-- other bytes read as the same file only where one of the two are none, and the file is the one with nothing planned
pub two_read : (f g : List ℕ) (F : File) → ReadsAs f F → ReadsAs g F → (f ≡ g → ⊥) → (F ≡ unplanned) × ((f ≡ []) ⊎ (g ≡ []))
two_read f g F (sent e) (sent d) other = absurd (other (sym e ∙ d))
two_read f g F (sent e) (nothing_sent none d) other = (d, inr none)
two_read f g F (nothing_sent none e) s other = (e, inl none)
