-- Runs of stores of words, the switches of a group, and the turns that a table holds.
use Prim.Native.Nat.{ℕ, zero, suc, ◌+◌, ◌*◌, ◌-◌, ◌/◌, ◌%◌, ◌≤◌, ◌<◌}
use mathlib.Core.Path.{◌≡◌, refl, sym, ap, ap₂, ◌∙◌}
use mathlib.Core.List.{List, [], ◌∷◌, ◌++◌, map, append_assoc}
use mathlib.Core.Bool.{Bool, true, false, cond, not, ◌&&◌}
use mir.Val.{bool_byte}
use native.Mathlib.Omega.{arith}
use native.Mathlib.Numerals.{add-one}
use lib.Dec.{eqb, eqb-suc-zero}
use lib.ListN.{length, get_or, take, drop, set, length-append, length-drop, length-map}
use lib.Seq.{sets, length-sets, drop-cons, length-take-le}
use Rattle.format.specs.Words.{bytes_of}
use Rattle.format.specs.Header.{junior_records, length_for, Laid, head_words}
use Rattle.format.specs.Contents.{Contents, item, no_session, no_node, contents_at}
use Rattle.format.specs.Writing.{head_for, session_words, node_words, table_words, file_words, encoded, node_put, nodes_put}
use Rattle.format.specs.declared.Six.{Six}
use Rattle.format.specs.declared.Head.{Head}
use Rattle.format.specs.declared.Session.{Session}
use Rattle.format.specs.declared.Node.{Node}
use Rattle.format.proofs.ContentsLaws.{from_item, none_past, users_held, roles_held, juniors_held, kinds_held, channels_held, sessions_held, nodes_held}
use Rattle.format.proofs.PutRuns.{puts_then, puts_turn, puts_end}
use Rattle.format.proofs.WriteLaws.{head_length, session_words_length, table_words_length}
use Rattle.format.proofs.NodesPut.{nodes_append, no_nodes, one_node, section_put}
use Rattle.states.specs.declared.Turn.{Turn}
use Rattle.states.specs.States.{unpacked}
use Rattle.groups.specs.Groups.{switch_to, offs, ons, before, size_of, sizes_of, on_of, ons_of, starts_from, moved, groups_from, rerooted, sessions_from, with_nodes, placed_contents, turns_in}
use Rattle.groups.specs.declared.Sums.{Sums}
use Rattle.groups.specs.Switches.{switches}
use Rattle.groups.proofs.GroupLaws.{groups_length, sessions_length}

-- what stands before a node, one at a time
abbrev pub off : Turn → List Node
off t = switches 8 t.from t.to t.from

abbrev pub on : Turn → List Node
on t = switches 7 t.from t.to t.to

pub before_switches : (t : Turn) → before t ≡ off t ++ on t
unfolding before
before_switches t = go (eqb t.from t.to) t.from t.to
  where
    some : ℕ → ℕ → List Node
    some tag role = cond (eqb role 0) [] (switch_to tag role ∷ [])

    go : (b : Bool) (p s : ℕ) → cond b [] (offs p ++ ons s) ≡ cond b [] (some 8 p) ++ cond b [] (some 7 s)
    go true p s = refl
    go false zero zero = refl
    go false zero (suc s) = rw (eqb-suc-zero s)
    go false (suc p) zero = rw (eqb-suc-zero p)
    go false (suc p) (suc s) = rw (eqb-suc-zero p, eqb-suc-zero s)

pub size_switches : (t : Turn) → size_of t ≡ 1 + length (off t) + length (on t)
size_switches t =
    let all : length (before t) ≡ length (off t) + length (on t) = ap length (before_switches t) ∙ length-append (off t) (on t) in
    omega (arith, all)

pub on_switch : (t : Turn) → on_of t ≡ length (on t)
on_switch t = go (eqb t.from t.to) t.to
  where
    go : (b : Bool) (s : ℕ) → cond b 0 (length (ons s)) ≡ length (cond b [] (cond (eqb s 0) [] (switch_to 7 s ∷ [])))
    go true s = refl
    go false zero = refl
    go false (suc s) = rw (eqb-suc-zero s)

-- as the code counts them
pub switch_counted : (tag from to role : ℕ) → bool_byte (not (eqb from to) && not (eqb role 0)) ≡ length (switches tag from to role)
switch_counted tag from to role = go (eqb from to) (eqb role 0)
  where
    go : (a b : Bool) → bool_byte (not a && not b) ≡ length (cond a [] (cond b [] (switch_to tag role ∷ [])))
    go true b = refl
    go false true = refl
    go false false = refl

-- the code's count of a switch
abbrev pub counted : Turn → ℕ → ℕ
counted t role = bool_byte (not (eqb t.from t.to) && not (eqb role 0))

pub one_at_most : (b : Bool) → bool_byte b ≤ 1
one_at_most true = omega arith
one_at_most false = omega arith

pub counted_few : (t : Turn) (role : ℕ) → counted t role ≤ 1
counted_few t role = one_at_most (not (eqb t.from t.to) && not (eqb role 0))

-- the turns of the nodes from n on, as a table holds them
unfoldable pub turns_at : List ℕ → ℕ → ℕ → List Turn
turns_at table n last = map unpacked (take (last + 1 - n) (drop n table))

pub turns_all : (table : List ℕ) (last : ℕ) → turns_at table 1 last ≡ turns_in table last
unfolding turns_at turns_in
turns_all table last = let z : last + 1 - 1 ≡ last = omega arith in rw z

pub turns_counted : (table : List ℕ) (n : ℕ) → n < length table → length (turns_in table n) ≡ n
unfolding turns_in
turns_counted table n h = length-map (take n (drop 1 table)) unpacked ∙ length-take-le n (drop 1 table) (omega (arith, length-drop 1 table))

turns_more : (table : List ℕ) (n last : ℕ) → n ≤ last → last < length table → turns_at table n last ≡ unpacked (get_or table n 0) ∷ turns_at table (n + 1) last
unfolding turns_at
turns_more table n last h k =
    let c : last + 1 - n ≡ suc (last + 1 - (n + 1)) = omega arith in
    rw (drop-cons table n 0 (omega arith), c, ← add-one n)

turns_none : (table : List ℕ) (n last : ℕ) → last < n → turns_at table n last ≡ []
unfolding turns_at
turns_none table n last h = let z : last + 1 - n ≡ 0 = omega arith in rw z

-- nodes after nodes, by their numbers
nodes_then : (h : Head) (l m q : List ℕ) (i j : ℕ) (ms ns : List Node) → j ≡ i + length ms → m ≡ nodes_put h i ms l → q ≡ nodes_put h j ns m → q ≡ nodes_put h i (ms ++ ns) l
nodes_then h l m q i j ms ns k em eq = eq ∙ (λ x. nodes_put h (k x) ns (em x)) ∙ sym (nodes_append h i ms ns l)

-- a group: two switches, then the node
pub group_put : (h : Head) (l m q out : List ℕ) (at after next : ℕ) (t : Turn) (n : Node)
    → after ≡ at + length (off t) → m ≡ nodes_put h at (off t) l → next ≡ after + length (on t) → q ≡ nodes_put h after (on t) m
    → out ≡ node_put h next n q → out ≡ nodes_put h at (before t ++ n ∷ []) l
group_put h l m q out at after next t n ea em en eq eo =
    let both = nodes_then h l m q at after (off t) (on t) ea em eq in
    nodes_then h l q out at next (off t ++ on t) (n ∷ []) (omega (arith, ea, en, length-append (off t) (on t))) both (eo ∙ sym (one_node h next n q))
    ∙ ap (λ (ns : List Node). nodes_put h at (ns ++ n ∷ []) l) (sym (before_switches t))

-- the groups of the nodes from n on
abbrev pub groups_at : List Node → ℕ → List ℕ → List ℕ → ℕ → List Node
groups_at ns last turns starts n = groups_from starts (drop (n - 1) ns) (turns_at turns n last)

pub groups_all : (ns : List Node) (last : ℕ) (turns starts : List ℕ) → groups_at ns last turns starts 1 ≡ groups_from starts ns (turns_in turns last)
groups_all ns last turns starts = ap (groups_from starts ns) (turns_all turns last)

groups_more : (ns : List Node) (last : ℕ) (turns starts : List ℕ) (n : ℕ) → 1 ≤ n → n ≤ last → last ≡ length ns → last < length turns
    → groups_at ns last turns starts n ≡ (before (unpacked (get_or turns n 0)) ++ moved starts (item no_node ns n) ∷ []) ++ groups_at ns last turns starts (n + 1)
unfolding groups_from
groups_more ns last turns starts n pos h e k =
    let t : Turn = unpacked (get_or turns n 0) in
    let m : Node = moved starts (item no_node ns n) in
    let same : n + 1 - 1 ≡ n = omega arith in
    rw same
    (ap₂ (groups_from starts) (from_item no_node ns n pos (omega arith)) (turns_more turns n last h k)
    ∙ sym (append_assoc (before t) (m ∷ []) (groups_from starts (drop n ns) (turns_at turns (n + 1) last))))

-- none is left
pub groups_end : (h : Head) (ns : List Node) (last : ℕ) (turns starts l whole : List ℕ) (n at : ℕ) → length ns < n → nodes_put h at (groups_at ns last turns starts n) l ≡ whole → l ≡ whole
unfolding groups_from
groups_end h ns last turns starts l whole n at past inv =
    sym (no_nodes h at l) ∙ ap (λ (xs : List Node). nodes_put h at (groups_from starts xs (turns_at turns n last)) l) (sym (none_past ns (n - 1) (omega arith))) ∙ inv

pub sizes_more : (turns : List ℕ) (n last : ℕ) → n ≤ last → last < length turns
    → sizes_of (turns_at turns n last) ≡ size_of (unpacked (get_or turns n 0)) + sizes_of (turns_at turns (n + 1) last)
unfolding sizes_of
sizes_more turns n last h k = rw (turns_more turns n last h k)

ons_more : (turns : List ℕ) (n last : ℕ) → n ≤ last → last < length turns
    → ons_of (turns_at turns n last) ≡ on_of (unpacked (get_or turns n 0)) + ons_of (turns_at turns (n + 1) last)
unfolding ons_of
ons_more turns n last h k = rw (turns_more turns n last h k)

-- a turn of each loop
pub groups_turn : (h : Head) (ns : List Node) (turns starts l m whole : List ℕ) (last n at next k : ℕ) (it : Node) → 1 ≤ n → n ≤ last → last ≡ length ns → last < length turns
    → k ≡ n → it ≡ item no_node ns n → next ≡ at + size_of (unpacked (get_or turns k 0)) → m ≡ nodes_put h at (before (unpacked (get_or turns k 0)) ++ moved starts it ∷ []) l
    → nodes_put h at (groups_at ns last turns starts n) l ≡ whole
    → nodes_put h next (groups_at ns last turns starts (n + 1)) m ≡ whole
groups_turn h ns turns starts l m whole last n at next k it pos less e room index node step em inv =
    let t : Turn = unpacked (get_or turns n 0) in
    let group : List Node = before t ++ moved starts (item no_node ns n) ∷ [] in
    let size : length group ≡ length (before t) + 1 = length-append (before t) (moved starts (item no_node ns n) ∷ []) in
    let place : next ≡ at + length group = step ∙ ap (λ (j : ℕ). at + size_of (unpacked (get_or turns j 0))) index ∙ omega (arith, size) in
    let put : m ≡ nodes_put h at group l = em ∙ ap₂ (λ (j : ℕ) (x : Node). nodes_put h at (before (unpacked (get_or turns j 0)) ++ moved starts x ∷ []) l) index node in
    (λ x. nodes_put h (place x) (groups_at ns last turns starts (n + 1)) (put x))
    ∙ sym (nodes_append h at group (groups_at ns last turns starts (n + 1)) l)
    ∙ ap (λ (xs : List Node). nodes_put h at xs l) (sym (groups_more ns last turns starts n pos less e room)) ∙ inv

pub sessions_turn : (ss : List Session) (starts l m whole : List ℕ) (base n : ℕ) (it : Session) (root : ℕ) → 1 ≤ n → n ≤ length ss
    → it ≡ item no_session ss n → root ≡ get_or starts it.root 0
    → m ≡ sets l (2 * (base + 3 * (n - 1))) (bytes_of (session_words (record { user = it.user; mask = it.mask; root = root } ∷ [])))
    → sets l (2 * (base + 3 * (n - 1))) (bytes_of (session_words (sessions_from starts (drop (n - 1) ss)))) ≡ whole
    → sets m (2 * (base + 3 * (n + 1 - 1))) (bytes_of (session_words (sessions_from starts (drop (n + 1 - 1) ss)))) ≡ whole
unfolding sessions_from session_words
sessions_turn ss starts l m whole base n it root pos h is to e inv =
    let same : n + 1 - 1 ≡ n = omega arith in
    let one : Session → List ℕ = λ s. session_words (rerooted starts s ∷ []) in
    let here : m ≡ sets l (2 * (base + 3 * (n - 1))) (bytes_of (one (item no_session ss n))) =
    e ∙ ap (λ (r : ℕ). sets l (2 * (base + 3 * (n - 1))) (bytes_of (session_words (record { user = it.user; mask = it.mask; root = r } ∷ [])))) to
    ∙ ap (λ (s : Session). sets l (2 * (base + 3 * (n - 1))) (bytes_of (one s))) is in
    rw same
    (puts_turn l m whole (base + 3 * (n - 1)) (base + 3 * n) (one (item no_session ss n)) (session_words (sessions_from starts (drop n ss))) (session_words (sessions_from starts (drop (n - 1) ss)))
    here (omega arith) (ap (λ (xs : List Session). session_words (sessions_from starts xs)) (from_item no_session ss n pos h)) inv)

pub sessions_end : (ss : List Session) (starts l whole : List ℕ) (at n : ℕ) → length ss < n
    → sets l at (bytes_of (session_words (sessions_from starts (drop (n - 1) ss)))) ≡ whole → l ≡ whole
unfolding sessions_from session_words
sessions_end ss starts l whole at n h inv =
    puts_end l whole (session_words (sessions_from starts (drop (n - 1) ss))) at
    (ap (λ (xs : List Session). session_words (sessions_from starts xs)) (none_past ss (n - 1) (omega arith))) inv

-- what the loop over the turns keeps at node n: the number at which its group starts, the on steps before it, and the starts stored so far
module _ (turns : List ℕ) (last : ℕ) (whole : List ℕ) where
  pub record Starting (n at ons : ℕ) (l : List ℕ) : Type 0 where
    pub some : 1 ≤ at
    pub most : at ≤ 3 * n
    pub few : ons < n
    pub nodes : at + sizes_of (turns_at turns n last) ≡ 1 + sizes_of (turns_in turns last)
    pub steps : ons + ons_of (turns_at turns n last) ≡ ons_of (turns_in turns last)
    pub stored : sets l n (starts_from at (turns_at turns n last)) ≡ whole

pub starting : (turns : List ℕ) (last : ℕ) (l : List ℕ) → Starting turns last (sets l 1 (starts_from 1 (turns_in turns last))) 1 1 0 l
starting turns last l =
    let all : turns_at turns 1 last ≡ turns_in turns last = turns_all turns last in
    record {
      some = omega arith;
      most = omega arith;
      few = omega arith;
      nodes = ap (λ (ts : List Turn). 1 + sizes_of ts) all;
      steps = ap (λ (ts : List Turn). 0 + ons_of ts) all ∙ omega arith;
      stored = ap (λ (ts : List Turn). sets l 1 (starts_from 1 ts)) all;
    }

pub starting_next : (turns : List ℕ) (last : ℕ) (whole : List ℕ) (n at ons : ℕ) (l : List ℕ) → n ≤ last → last < length turns → Starting turns last whole n at ons l
    → Starting turns last whole (n + 1) (at + (1 + counted (unpacked (get_or turns n 0)) (get_or turns n 0 % 256) + counted (unpacked (get_or turns n 0)) (get_or turns n 0 / 256)))
    (ons + counted (unpacked (get_or turns n 0)) (get_or turns n 0 / 256)) (set l n at)
unfolding starts_from
starting_next turns last whole n at ons l h k s =
    let t : Turn = unpacked (get_or turns n 0) in
    let x : ℕ = counted t t.from in
    let y : ℕ = counted t t.to in
    let off-one : x ≡ length (off t) = switch_counted 8 t.from t.to t.from in
    let on_one : y ≡ length (on t) = switch_counted 7 t.from t.to t.to in
    let size : 1 + x + y ≡ size_of t = omega (arith, off-one, on_one, size_switches t) in
    record {
      some = omega (arith, s.some);
      most = omega (arith, s.most, counted_few t t.from, counted_few t t.to);
      few = omega (arith, s.few, counted_few t t.to);
      nodes = omega (arith, size, sizes_more turns n last h k, s.nodes);
      steps = omega (arith, on_one, on_switch t, ons_more turns n last h k, s.steps);
      stored = ap (λ (j : ℕ). sets (set l n at) j (starts_from (at + (1 + x + y)) (turns_at turns (n + 1) last))) (add-one n)
          ∙ rw size (rw (turns_more turns n last h k) at s.stored);
    }

pub starting_end : (turns : List ℕ) (last : ℕ) (whole : List ℕ) (n at ons : ℕ) (l : List ℕ) (at' ons' : ℕ) (l' : List ℕ) → last < n → Starting turns last whole n at ons l
    → at' ≡ at → ons' ≡ ons → l' ≡ l
    → ◌≡◌ {A = Sums} (record { nodes = at' - 1; on_steps = ons' }) (record { nodes = sizes_of (turns_in turns last); on_steps = ons_of (turns_in turns last) }) × (l' ≡ whole)
unfolding sizes_of ons_of starts_from
starting_end turns last whole n at ons l at' ons' l' h s ea eo el =
    let none : turns_at turns n last ≡ [] = turns_none turns n last h in
    let nodes : at' - 1 ≡ sizes_of (turns_in turns last) = omega (arith, s.nodes, ea, ap sizes_of none) in
    let steps : ons' ≡ ons_of (turns_in turns last) = omega (arith, s.steps, eo, ap ons_of none) in
    (cc, el ∙ (rw none at s.stored))

-- a laid head is the one that its contents have, and no offset depends on the nodes
six : {a b c d e g a' b' c' d' e' g' : ℕ} → a ≡ a' → b ≡ b' → c ≡ c' → d ≡ d' → e ≡ e' → g ≡ g'
    → ◌≡◌ {A = Six} (record { users = a; roles = b; kinds = c; channels = d; sessions = e; nodes = g }) (record { users = a'; roles = b'; kinds = c'; channels = d'; sessions = e'; nodes = g' })
six ea eb ec ed ee eg = λ i. record { users = ea i; roles = eb i; kinds = ec i; channels = ed i; sessions = ee i; nodes = eg i }

head_placed : (f : List ℕ) (h : Head) (ts : List Turn) (starts : List ℕ) → Laid f h → length ts ≡ h.count.nodes
    → with_nodes h (sizes_of ts) ≡ head_for h.version (placed_contents (contents_at f h) ts starts)
head_placed f h ts starts l e =
    let C : Contents = contents_at f h in
    let H : Head = head_for h.version (placed_contents C ts starts) in
    let u = users_held f h in
    let r = roles_held f h in
    let j : junior_records h.version (length C.roles) ≡ junior_records h.version h.count.roles = ap (junior_records h.version) r in
    let k = kinds_held f h in
    let c = channels_held f h in
    let s : length (sessions_from starts C.sessions) ≡ h.count.sessions = sessions_length starts C.sessions ∙ sessions_held f h in
    let n : length (groups_from starts C.nodes ts) ≡ sizes_of ts = groups_length starts C.nodes ts (nodes_held f h ∙ sym e) in
    let counts = six (sym u) (sym r) (sym k) (sym c) (sym s) (sym n) in
    let at-roles : h.at.roles ≡ H.at.roles = omega (arith, u) in
    let at-juniors : h.at.juniors ≡ H.at.juniors = omega (arith, u, r) in
    let at-kinds : h.at.kinds ≡ H.at.kinds = omega (arith, u, r, j) in
    let at-channels : h.at.channels ≡ H.at.channels = omega (arith, u, r, j, k) in
    let at-sessions : h.at.sessions ≡ H.at.sessions = omega (arith, u, r, j, k, c) in
    let at-nodes : h.at.nodes ≡ H.at.nodes = omega (arith, u, r, j, k, c, s) in
    λ i. record {
      version = h.version;
      count = counts i;
      at = record {
        users = l.users_at i;
        roles = at-roles i;
        juniors = at-juniors i;
        kinds = at-kinds i;
        channels = at-channels i;
        sessions = at-sessions i;
        nodes = at-nodes i;
      };
    }

pub file_put : (f : List ℕ) (h : Head) (ts : List Turn) (starts l l1 l2 l3 l4 : List ℕ) → Laid f h → length ts ≡ h.count.nodes
    → l1 ≡ sets l 0 (bytes_of (head_words (with_nodes h (sizes_of ts)))) → l2 ≡ sets l1 (2 * h.at.users) (bytes_of (table_words h.version (contents_at f h)))
    → l3 ≡ sets l2 (2 * h.at.sessions) (bytes_of (session_words (sessions_from starts (contents_at f h).sessions)))
    → l4 ≡ nodes_put (with_nodes h (sizes_of ts)) 1 (groups_from starts (contents_at f h).nodes ts) l3
    → length_for h.at.nodes (sizes_of ts) ≤ length l → l4 ≡ sets l 0 (encoded h.version (placed_contents (contents_at f h) ts starts))
unfolding encoded file_words table_words
file_put f h ts starts l l1 l2 l3 l4 d e e1 e2 e3 e4 room =
    let C : Contents = contents_at f h in
    let head : List ℕ = head_words (with_nodes h (sizes_of ts)) in
    let tables : List ℕ = table_words h.version C in
    let sessions : List ℕ = session_words (sessions_from starts C.sessions) in
    let ns : List Node = groups_from starts C.nodes ts in
    let nodes : List ℕ = node_words h.version ns in
    let long : length l3 ≡ length l =
    ap length e3 ∙ length-sets l2 (2 * h.at.sessions) (bytes_of sessions) ∙ ap length e2 ∙ length-sets l1 (2 * h.at.users) (bytes_of tables) ∙ ap length e1 ∙ length-sets l 0 (bytes_of head) in
    let put : l4 ≡ sets l3 (2 * h.at.nodes) (bytes_of nodes) =
    e4 ∙ section_put (with_nodes h (sizes_of ts)) ns l3 (groups_length starts C.nodes ts (nodes_held f h ∙ sym e)) (omega (arith, room, long)) in
    let size1 : length head ≡ h.at.users = head_length (with_nodes h (sizes_of ts)) ∙ sym d.users_at in
    let masks : junior_records h.version (length C.juniors) ≡ junior_records h.version h.count.roles = ap (junior_records h.version) (juniors_held f h) in
    let size2 : h.at.users + length tables ≡ h.at.sessions =
    omega (arith, d, table_words_length h.version C, users_held f h, roles_held f h, masks, kinds_held f h, channels_held f h) in
    let size3 : length sessions ≡ 3 * h.count.sessions =
    session_words_length (sessions_from starts C.sessions) ∙ ap (λ (k : ℕ). 3 * k) (sessions_length starts C.sessions ∙ sessions_held f h) in
    let q2 : l2 ≡ sets l 0 (bytes_of (head ++ tables)) = puts_then l l1 l2 0 h.at.users head tables e1 (omega (arith, size1)) e2 in
    let two : length (head ++ tables) ≡ length head + length tables = length-append head tables in
    let q3 : l3 ≡ sets l 0 (bytes_of ((head ++ tables) ++ sessions)) =
    puts_then l l2 l3 0 h.at.sessions (head ++ tables) sessions q2 (omega (arith, two, size1, size2)) e3 in
    let three : length ((head ++ tables) ++ sessions) ≡ length (head ++ tables) + length sessions = length-append (head ++ tables) sessions in
    puts_then l l3 l4 0 h.at.nodes ((head ++ tables) ++ sessions) nodes q3 (omega (arith, d, two, three, size1, size2, size3)) put
    ∙ ap (λ (ws : List ℕ). sets l 0 (bytes_of ws)) (append_assoc (head ++ tables) sessions nodes ∙ append_assoc head tables (sessions ++ nodes))
    ∙ ap (λ (x : Head). sets l 0 (bytes_of (head_words x ++ (tables ++ (sessions ++ nodes))))) (head_placed f h ts starts d e)
