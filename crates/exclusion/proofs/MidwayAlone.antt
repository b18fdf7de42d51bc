-- Mutual exclusion in a placed file: with one seat for the role that covers them, no two sessions are midway at once.
use Prim.Native.Nat.{ℕ, zero, suc, ◌-◌, ◌≤◌, ◌<◌}
use mathlib.Core.Path.{◌≡◌, refl, sym, ap, ◌∙◌, subst}
use mathlib.Core.Logic.{◌⊎◌, inl, inr, ◌≢◌}
use mathlib.Core.Bool.{Bool, true, false, false≢true}
use mathlib.Core.List.{List, [], ◌∷◌, map}
use native.Mathlib.Omega.{arith}
use lib.ListN.{length, get_or, drop}
use Rattle.masks.specs.Mask.{has}
use Rattle.masks.proofs.Laws.{has_none}
use Rattle.format.specs.Contents.{Contents, contents_of, item, no_session}
use Rattle.format.specs.declared.Node.{Node}
use Rattle.format.specs.declared.Session.{Session}
use Rattle.format.proofs.ContentsLaws.{item_get}
use Rattle.rules.specs.Schema.{Schema}
use Rattle.steps.specs.Choice.{thread_at}
use Rattle.reading_exact.specs.Lists.{All}
use Rattle.reading_exact.specs.Tree.{Tree, end}
use Rattle.reading_exact.specs.File.{Routine, File, InCount}
use Rattle.reading_exact.specs.Refusals.{nth, OneChild, root, child}
use Rattle.reading_exact.proofs.Standing.{roots_in}
use Rattle.reading_exact.proofs.AllLaws.{all_map, all_both, all_get}
use Rattle.reading_exact.proofs.FileContents.{trees_of, length_rooted, all_rooted}
use Rattle.checking_exact.specs.Tables.{schema_for}
use Rattle.checking_exact.specs.Typing.{Typed}
use Rattle.placing_exact.specs.Placement.{plain, on_steps, Holds, grafted, Placement}
use Rattle.placing_exact.specs.Placed.{placed_trees, placed_file}
use Rattle.placing_exact.specs.Promised.{no_routine, session, Covers}
use Rattle.placing_exact.proofs.FilePlaced.{placed_good}
use Rattle.placing_exact.proofs.FormedTrees.{grafted_length, grafted_same}
use Rattle.placing_exact.proofs.OneRole.{covered_once}
use Rattle.hours_exact.specs.OpenFile.{with_users}
use Rattle.seats.specs.Seats.{limited_of, seats_in, SeatedState, sits, count_to, seated_start}
use Rattle.seats.specs.SeatOrder.{InTreeOf, Ordered}
use Rattle.seats.proofs.SeatedRuns.{always_map, always_both}
use Rattle.seats.proofs.SeatedStart.{table_roles, seats_first, start_sits, start_ordered}
use Rattle.exclusion.specs.Exclusion.{AtOrBelow, here, by_child, Exchange, NoOnFrom, PartDone, SwitchesOn, Midway}
use Rattle.exclusion.specs.Exclusion.{CoversAlone, Alone, EveryState, HoldsWhileMidway, AloneWhileMidway}
use Rattle.exclusion.specs.Exclusion.{NeverBothMidway, AloneSince, UnderOneOn}
use Rattle.exclusion.proofs.NodesBelow.{below_later, below_join, below_inside, tree_counted}
use Rattle.exclusion.proofs.SessionNodes.{WrittenAt, InSpan, root_begins, tree_written, in_span}
use Rattle.exclusion.proofs.OneOnNode.{some_on, one_on}
use Rattle.exclusion.proofs.RolesAbove.{there, LoneOns, come_from, some_role}
use Rattle.exclusion.proofs.OnsAlone.{on_names, lone_ons}
use Rattle.exclusion.proofs.OnCovers.{OnlyOn, only_on, covered_by}
use Rattle.exclusion.proofs.PlacedFrom.{PlacedFrom}
use Rattle.exclusion.proofs.AloneInRole.{Sound, always_sound, thread_holds, underway_alone}

count_none : (q : ℕ → Bool) → ((k : ℕ) → q k ≡ false) → (n : ℕ) → count_to q n ≡ 0
unfolding count_to
count_none q h zero = refl
count_none q h (suc n) = rw (h (suc n)) (omega (arith, count_none q h n))

-- a session of a file with other trees: its user and mask stay, and its tree without on and off is what it was
abbrev Regrown : Routine → Routine → Type 0
Regrown s t = (t.user ≡ s.user) × (t.mask ≡ s.mask) × (plain t.tree ≡ s.tree)

regrown : (ss : List Routine) (ts : List Tree) → map plain ts ≡ trees_of ss → (j : ℕ)
    → Regrown (get_or ss j no_routine) (get_or (grafted ss ts) j no_routine)
unfolding grafted plain
regrown [] ts e j = (refl, refl, refl)
regrown (s ∷ ss) [] e j = let never : ⊥ = omega (arith, ap length e) in absurd never
regrown (s ∷ ss) (t ∷ ts) e zero = (refl, refl, ap (λ (l : List Tree). get_or l 0 end) e)
regrown (s ∷ ss) (t ∷ ts) e (suc j) = regrown ss ts (ap (drop 1) e) j

module _ (g : List ℕ) (F : File) (P : PlacedFrom g F) where
  abbrev C : Contents
  C = contents_of g

  abbrev ns : List Node
  ns = C.nodes

  abbrev D : Schema
  D = schema_for F

  -- the file written, and its trees
  abbrev G : File
  G = with_users P.users (placed_file F)

  abbrev ts : List Tree
  ts = placed_trees D F.sessions

  placement : Placement F ts
  placement = placed_good F P.ready.formed P.ready.named P.ready.bare P.served

  lone : LoneOns C
  lone =
      lone_ons g P.passes G P.contents
      (all_map (λ s (t, h). (on_names t.1, h)) G.sessions
      (all_both (λ (s : Routine). Typed D s.user [] s.mask s.tree) (λ (s : Routine). Holds s.mask s.tree)
      G.sessions placement.passes placement.holds))

  -- as many sessions as before
  many : length C.sessions ≡ length F.sessions
  many =
      ap (λ (X : Contents). length X.sessions) P.contents ∙ length_rooted 1 G.sessions
      ∙ grafted_length D F.sessions

  -- no session starts with a role, so that any table of seats fits the start
  bare : (k : ℕ) → InCount (length C.sessions) k → (item no_session C.sessions k).mask ≡ 0
  bare k c =
      let none = grafted_same D (λ u m. m ≡ 0) F.sessions (all_map (λ s h. h.0) F.sessions P.ready.bare) in
      let all : All (λ (s : Session). s.mask ≡ 0) C.sessions =
      subst (λ (X : Contents). All (λ (s : Session). s.mask ≡ 0) X.sessions) (sym P.contents)
      ((all_rooted (λ u m. m ≡ 0) 1 G.sessions).1 none) in
      ap (λ (s : Session). s.mask) (item_get no_session C.sessions k c.0)
      ∙ all_get (λ (s : Session). s.mask ≡ 0) C.sessions (k - 1) no_session (omega (arith, c.0, c.1)) all

  none_sits : (r k : ℕ) → sits (seated_start C) k r ≡ false
  none_sits r k = go (sits (seated_start C) k r) refl
    where
      go : (b : Bool) → sits (seated_start C) k r ≡ b → b ≡ false
      go true e = let (c, h) = (start_sits C k r).0 e in absurd (false≢true (sym (has_none r) ∙ (rw (bare k c) at h)))
      go false e = refl

  ordered : (table : List ℕ) → Ordered (limited_of C table) (seated_start C)
  ordered table =
      start_ordered C table
      (seats_first (limited_of C table) (seated_start C) (length table) (table_roles table)
      (λ r l. omega (arith, count_none (λ k. sits (seated_start C) k r) (none_sits r) (length C.sessions))))

  sound : (table : List ℕ) → EveryState g table (Sound g P.passes table)
  sound table = always_sound g P.passes table (ordered table)

  bare_tree : (k j : ℕ) → InTreeOf C k j → (item no_session C.sessions k).mask ≡ 0
  bare_tree k j r = bare k (tree_counted C r)

  -- Any session: from an on step to a send or receive that no other on step parts from it.
  pub alone_since : (k a x : ℕ) → SwitchesOn (contents_of g) k x a → (table : List ℕ) → seats_in table x ≡ 1
      → AloneSince g table k x a
  alone_since k a x on table one ws =
      always_map (limited_of C table) _ _
      (λ T S. underway_alone g P.passes table lone k (bare_tree k a on.inside) a x on T S one) ws
      (seated_start C) (sound table ws)

  -- A session that some role covers.
  module _ (k r : ℕ) (c : InCount (length F.sessions) k) (covers : Covers F k r) where
    abbrev tree : Tree
    tree = (session G k).tree

    abbrev rt : ℕ
    rt = get_or (roots_in C.sessions) (k - 1) 0

    c_in : InCount (length C.sessions) k
    c_in = (c.0, omega (arith, c.1, many))

    stands : WrittenAt ns tree rt
    stands = tree_written g P.passes G P.contents k c_in

    -- it has one on step
    one_node : (a b : ℕ) → InTreeOf C k a → InTreeOf C k b → (nth ns a).tag ≡ 7 → (nth ns b).tag ≡ 7 → a ≡ b
    one_node a b ra rb =
        one_on ns tree rt stands (covered_once F P.ready.formed P.ready.named P.ready.bare k r c covers) a b
        (in_span g P.passes G P.contents ra) (in_span g P.passes G P.contents rb)

    single : (a b x y : ℕ) → SwitchesOn C k x a → SwitchesOn C k y b → (a ≡ b) × (x ≡ y)
    single a b x y on at =
        let same : a ≡ b = one_node a b on.inside at.inside on.tag at.tag in
        (same, sym on.role ∙ ap (λ (n : ℕ). (nth ns n).f1) same ∙ at.role)

    -- each of its sends and receives stands below that step
    below : (b : ℕ) → InTreeOf C k b → Exchange (nth ns b) → (a x : ℕ) × SwitchesOn C k x a × AtOrBelow ns (suc a) b
    below b r ex =
        let (d, h, from) = come_from g P.passes r (bare_tree k b r) in
        let (x, w) = some_role g P.passes b d h ex in
        let (a, on, l) = from x w in
        (a, x, on, l)

    -- no other on step comes after it
    no_on : (a x : ℕ) → SwitchesOn C k x a → (n : ℕ) → NoOnFrom ns (suc a) n
    no_on a x on n b l u t =
        let one : OneChild (nth ns a).tag = (omega (arith, on.tag), omega (arith, on.tag)) in
        let inner : InTreeOf C k (suc a) = child (there ns a (omega (arith, on.tag))) one on.inside in
        let same : b ≡ a = one_node b a (below_inside C inner l) on.inside t on.tag in
        omega (arith, same, below_later l)

    -- the role of that step is one that permits them all
    on_covers : (a x : ℕ) → SwitchesOn C k x a → Covers F k x
    on_covers a x on =
        let s : Routine = session G k in
        let low : k - 1 < length G.sessions = omega (arith, c.0, c.1, grafted_length D F.sessions) in
        let before : k - 1 < length F.sessions = omega (arith, c.0, c.1) in
        let (user, mask, back) = regrown F.sessions ts placement.back (k - 1) in
        let (_, typed) = all_get (λ (s : Routine). Typed D s.user [] s.mask s.tree) G.sessions (k - 1)
        no_routine low placement.passes in
        let (zeroed, _) = all_get (λ (s : Routine). (s.mask ≡ 0) × (plain s.tree ≡ s.tree)) F.sessions (k - 1)
        no_routine before P.ready.bare in
        let all : (b : ℕ) → InTreeOf C k b → (nth ns b).tag ≡ 7 → (nth ns b).f1 ≡ x =
        λ b r t. ap (λ (n : ℕ). (nth ns n).f1) (one_node b a r on.inside t on.tag) ∙ on.role in
        let ons : OnlyOn x tree = only_on C k x all tree rt stands (root c_in (root_begins g P.passes k c_in)) in
        let span : InSpan tree rt a = in_span g P.passes G P.contents on.inside in
        let some : 1 ≤ on_steps tree = some_on ns tree rt stands a span on.tag in
        rw (← user, ← back) (covered_by D s.user x typed (mask ∙ zeroed) ons some)

    -- who is midway has done that step
    abbrev Since : SeatedState → ℕ → Type 0
    Since T i =
        (a x : ℕ) × SwitchesOn C k x a
        × (U : PartDone ns a (thread_at T.state i).node) × NoOnFrom ns (suc a) U.next

    since_on : (T : SeatedState) (i : ℕ) → Midway C T k i → Since T i
    since_on T i M = go M.begun
      where
        b : ℕ
        b = M.since

        from : (a x : ℕ) → SwitchesOn C k x a → AtOrBelow ns (suc a) (suc b) → Since T i
        from a x on upto =
            let U : PartDone ns b (thread_at T.state i).node = M.part in
            let under : PartDone ns a (thread_at T.state i).node =
            record { done = below_join upto U.done; next = U.next; exchange = U.exchange; ahead = U.ahead } in
            (a, x, on, under, no_on a x on U.next)

        exchanged : Exchange (nth ns b) → Since T i
        exchanged ex =
            let (a, x, on, l) = below b M.inside ex in
            let (low, high) = tagged ex in
            from a x on (below_join l (by_child (there ns b (omega (arith, low))) (omega (arith, low), high) here))
          where
            tagged : Exchange (nth ns b) → (5 ≤ (nth ns b).tag) × ((nth ns b).tag ≤ 8)
            tagged (inl e) = (omega (arith, e), omega (arith, e))
            tagged (inr e) = (omega (arith, e), omega (arith, e))

        go : ((nth ns b).tag ≡ 7) ⊎ Exchange (nth ns b) → Since T i
        go (inl e) = from b (nth ns b).f1 (record { inside = M.inside; tag = e; role = refl }) here
        go (inr e) = exchanged e

    -- so it has the role of that step, whatever the seats ..
    holds : (a x : ℕ) → SwitchesOn C k x a → (table : List ℕ) → HoldsWhileMidway g table k x
    holds a x on table ws = always_map (limited_of C table) _ _ held ws (seated_start C) (sound table ws)
      where
        held : (T : SeatedState) → Sound g P.passes table T → (i : ℕ) → Midway C T k i
            → has (thread_at T.state i).mask x ≡ true
        held T S i M =
            let (b, y, done, U, stop) = since_on T i M in
            let none : (item no_session C.sessions k).mask ≡ 0 = bare_tree k b done.inside in
            rw (single b a y x done on).1 at
            (thread_holds g P.passes table lone k none b y done T S.1 i M.thread U stop)

    -- .. and with one seat for it the session is alone in it
    alone_midway : (table : List ℕ) (T : SeatedState) → Sound g P.passes table T → (i : ℕ) → Midway C T k i
        → (a x : ℕ) × SwitchesOn C k x a × (seats_in table x ≡ 1 → Alone C T k x i)
    alone_midway table T S i M =
        let (a, x, on, U, stop) = since_on T i M in
        let none : (item no_session C.sessions k).mask ≡ 0 = bare_tree k a on.inside in
        let is : seats_in table x ≡ 1 → Alone C T k x i =
        λ one. underway_alone g P.passes table lone k none a x on T S one i M.thread M.owner U stop in
        (a, x, on, is)

    alone_by : (x : ℕ) (table : List ℕ) → ((a y : ℕ) → SwitchesOn C k y a → y ≡ x) → seats_in table x ≡ 1
        → AloneWhileMidway g table k x
    alone_by x table same one ws = always_map (limited_of C table) _ _ by ws (seated_start C) (sound table ws)
      where
        by : (T : SeatedState) → Sound g P.passes table T → (i : ℕ) → Midway C T k i → Alone C T k x i
        by T S i M =
            let (a, y, on, is) = alone_midway table T S i M in
            let e : y ≡ x = same a y on in
            subst (λ (z : ℕ). Alone C T k z i) e (is (ap (seats_in table) e ∙ one))

    pub under_one : UnderOneOn g F k
    under_one = record {
      below = below;
      single = single;
      covers = on_covers;
      holds = holds;
      alone = λ a x on table. alone_by x table (λ b y at. (single b a y x at on).1);
    }

    -- Where no other role covers it, that role is the one that does.
    pub role_alone : ((y : ℕ) → Covers F k y → y ≡ r) → (table : List ℕ) → seats_in table r ≡ 1
        → AloneWhileMidway g table k r
    role_alone only table = alone_by r table (λ a y on. only y (on_covers a y on))

-- So two sessions that are each alone in one role while they are midway are never both midway.
pub never_both : (g table : List ℕ) (k m x : ℕ) → k ≢ m → AloneWhileMidway g table k x → AloneWhileMidway g table m x
    → NeverBothMidway g table k m
never_both g table k m x other one too ws =
    always_both (limited_of (contents_of g) table) _ _ _
    (λ T h l i j M N. false≢true (sym ((h i M).others j N.thread (λ e. other (sym e ∙ N.owner))) ∙ (l j N).holds)) ws
    (seated_start (contents_of g)) (one ws) (too ws)

module _ (g : List ℕ) (F : File) (P : PlacedFrom g F) (k m : ℕ) (c : InCount (length F.sessions) k)
    (d : InCount (length F.sessions) m) (other : k ≢ m) where
  pub never_two : (r : ℕ) → CoversAlone F k r → CoversAlone F m r → (table : List ℕ) → seats_in table r ≡ 1
      → NeverBothMidway g table k m
  never_two r (k-covered, k-only) (m-covered, m-only) table one =
      never_both g table k m r other (role_alone g F P k r c k-covered k-only table one)
      (role_alone g F P m r d m-covered m-only table one)

  pub never_two_on : (r s : ℕ) → Covers F k r → Covers F m s → (a b x : ℕ) → SwitchesOn (contents_of g) k x a
      → SwitchesOn (contents_of g) m x b → (table : List ℕ) → seats_in table x ≡ 1 → NeverBothMidway g table k m
  never_two_on r s k-covered m-covered a b x on at table one =
      never_both g table k m x other ((under_one g F P k r c k-covered).alone a x on table one)
      ((under_one g F P m s d m-covered).alone b x at table one)
