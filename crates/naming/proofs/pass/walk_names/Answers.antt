use Prim.Native.Nat.{ℕ, ◌+◌, ◌-◌, ◌≤◌, ◌<◌}
use mathlib.Core.Path.{◌≡◌, refl, sym, ap, ap₂, subst, ◌∙◌}
use mathlib.Core.Bool.{cond}
use mathlib.Core.List.{List, [], ◌∷◌, map}
use native.Mathlib.Omega.{arith}
use lib.Dec.{eqb}
use borrow.Author.Tests.{lt-ltb}
use lib.ListN.{length, get_or, set, length-set}
use Rattle.format.specs.Contents.{contents_at}
use Rattle.format.specs.Stacks.{stacked}
use Rattle.format.specs.Header.{Laid}
use Rattle.format.specs.declared.Head.{Head}
use Rattle.format.specs.declared.Node.{Node}
use Rattle.format.proofs.ContentsLaws.{users_held, channels_held, nodes_held}
use Rattle.naming.specs.declared.NameStep.{NameStep}
use Rattle.rules.specs.declared.Point.{Point}
use Rattle.rules.specs.Schema.{Schema, schema_of}
use Rattle.rules.specs.Rules.{Context, wrong, waiting_after}
use Rattle.rules.specs.Checking.{openings}
use Rattle.naming.specs.Scopes.{bind_scope, scope_of, marked, awaited}
use Rattle.rules.specs.Kept.{kind_in, look, NameTable, context_of, Waits, unmasked, Ownable}
use Rattle.naming.specs.Kept.{bare_point, unpaired, queued, naming_of}
use Rattle.rules.proofs.NameLaws.{Held, held_less, named_kept}
use Rattle.rules.proofs.StepLaws.{step_right}
use Rattle.naming.proofs.NamingLaws.{NamesJudged, told, awaited_right}
use Rattle.format.proofs.StackLaws.{read_none, read_top, read_push}
use Rattle.rules.proofs.StackLaws.{waits_push, waits_more, contexts_kept, contexts_bare}
use Rattle.naming.proofs.ScopeLaws.{scope_next, scope_pushed, scope_popped}
use Rattle.rules.proofs.PassLaws.{after_step}
use Rattle.naming.proofs.ScopePass.{Scoping, scoping_begins, scoping_out, scoping_ends, scoping_refused, scoping_on, scoping_tree, scoping_fork}
use Rattle.naming.proofs.pass.walk_names.Goals as goal
use Rattle.naming.proofs.pass.walk_names.Goals.{in-0+else-depth-eq0-2, in-1, in_default+else-step-ne0}

-- what the step tells of the node, and the kind that is kept with it
module _ (f : List ℕ) (h : Head) (t : List ℕ) (u b : ℕ) (n : Node) (s : NameStep) (laid : Laid f h) (long : 512 + b < length t)
    (table : NameTable (schema_of (contents_at f h)) h.count.users h.count.channels t) (held : Held t b)
    (is : (s ≡ naming_of (schema_of (contents_at f h)) t u b n) × (n.tag ≡ 5 → (schema_of (contents_at f h)).carries (kind_in (look t b n.f1)) < 65536)) where
  abbrev D : Schema
  D = schema_of (contents_at f h)

  named : NameTable D D.users D.channels t
  named = subst (λ k. NameTable D k D.channels t) (sym (users_held f h)) (subst (λ k. NameTable D h.count.users k t) (sym (channels_held f h)) table)

  told_at : (n.tag ≡ 0 → ⊥) → (n.tag ≡ 1 → ⊥) → n.f1 < 65536 → NamesJudged D t u b n s
  told_at no-end no-fork small =
      subst (λ (r : NameStep). NamesJudged D t u b n r) (sym is.0)
      (told D t u b n
      (step_right D t (bare_point D u b) n (omega (arith, users_held f h, laid.users)) (omega (arith, channels_held f h, laid.channels)) named long held refl no-end no-fork small is.1))

  kind_at_lem : wrong D (context_of t (bare_point D u b)) n ≡ 0 → s.awaits ≡ awaited D (context_of t (bare_point D u b)) n
  kind_at_lem good = ap (λ (r : NameStep). r.awaits) is.0 ∙ awaited_right D t u b n (omega (arith, users_held f h, laid.users)) (omega (arith, channels_held f h, laid.channels)) named (omega (arith, long)) held good

pub returns-then-depth-eq0 : goal.returns-then-depth-eq0
returns-then-depth-eq0 c =
    let a = c.args in
    let os = c.open_users-depth in
    let C = contents_at a.file.now a.head in
    let stack = os.new.stack in
    let none : [] ≡ map unmasked (openings C) = ap (map (context_of [])) (sym (ap (queued (schema_of C) stack) c.if-depth-eq0.true ∙ read_none 0 (unpaired (schema_of C)) stack)) ∙ os.ensures.2 in
    scoping_out C a.scopes.now 1 a.scopes.now (scoping_begins C a.scopes.now [] none)

pub loop-n-init : goal.loop-n-init
loop-n-init c =
    let a = c.args in
    let os = c.open_users-depth in
    let names = c.name_all in
    let C = contents_at a.file.now a.head in
    let D = schema_of C in
    let t = names.new.names in
    let stack = os.new.stack in
    let waits = os.new.waits in
    let r = os.result in
    let p = bare_point D c.user_in-user.result c.bound_with-bound.result in
    let pos : 0 < r = omega arith in
    let top : queued D stack r ≡ p ∷ queued D stack (r - 1) =
    read_top 0 (unpaired D) stack r pos ∙ ap (λ (q : Point). q ∷ queued D stack (r - 1)) (ap₂ (bare_point D) (sym c.user_in-user.ensures) (sym c.bound_with-bound.ensures)) in
    let w : Waits Ownable 0 (p ∷ queued D stack (r - 1)) = subst (λ (ps : List Point). Waits Ownable 0 ps) top os.ensures.1 in
    let st : context_of t p ∷ map (context_of t) (queued D stack (r - 1)) ≡ map unmasked (openings C) =
    ap (map (context_of t)) (sym top) ∙ contexts_bare Ownable t (queued D stack r) os.ensures.1 ∙ os.ensures.2 in
    let popped = scope_popped waits r (context_of t p) (map (context_of t) (queued D stack (r - 1))) pos (os.ensures.3 ∙ ap (map scope_of) (sym st)) in (
      refl,
      refl,
      omega (arith, os.ensures.0),
      omega (arith, w.0),
      w.1,
      names.ensures.1,
      (λ j low high. let no : ⊥ = omega (arith, low, high, w.0) in absurd no),
      w.2,
      scoping_begins C a.scopes.now _ st,
      refl,
      (λ room. popped.0),
      (λ room. popped.1),
      refl,
    )

pub returns-then-depth-eq0-2 : goal.returns-then-depth-eq0-2
returns-then-depth-eq0-2 c =
    let a = c.args in
    let l = c.loop-n in
    let n = c.node-it in
    let C = contents_at a.file.now a.head in
    let st : map (context_of l.names) (queued (schema_of C) l.stack l.depth) ≡ [] =
    ap (λ d. map (context_of l.names) (queued (schema_of C) l.stack d)) c.if-depth-eq0-2.true ∙ ap (map (context_of l.names)) (read_none 0 (unpaired (schema_of C)) l.stack) in
    let left = scoping_tree C a.scopes.now (l.n + 1) (context_of l.names (bare_point (schema_of C) l.user l.bound)) _ l.scopes n.result (omega arith) (omega (arith, nodes_held a.file.now a.head, c.loop-n-test.true)) n.ensures l.invariant.8 c.from.result l.here 0 c.from.ensures l.invariant.10 (λ _. rw c.in-0.is) c.in-0.is in
    let done = scoping_out C a.scopes.now (l.n + 1 + 1) _ (subst (λ (x : List Context). Scoping C a.scopes.now (l.n + 1 + 1) x (set l.scopes c.from.result (marked l.here 0))) st left) in
    (done.0, c.keep.ensures ∙ done.1)

pub returns-then-step-ne0 : goal.returns-then-step-ne0
returns-then-step-ne0 c =
    let a = c.args in
    let l = c.loop-n in
    let n = c.node-it in
    let C = contents_at a.file.now a.head in
    scoping_refused C a.scopes.now (l.n + 1) (context_of l.names (bare_point (schema_of C) l.user l.bound)) _ l.scopes n.result (omega arith) (omega (arith, nodes_held a.file.now a.head, c.loop-n-test.true)) n.ensures l.invariant.8 c.naming_at-step.result.wrong
    (told_at a.file.now a.head l.names l.user l.bound n.result c.naming_at-step.result c.requires.0 (omega (arith, l.invariant.1, l.invariant.3, c.loop-n-test.true, c.name_all.ensures.0, c.requires.2)) l.invariant.5 l.invariant.6 c.naming_at-step.ensures (λ z. omega (arith, z)) (λ z. omega (arith, z)) (omega arith)).wrong c.if-step-ne0.true

pub loop-n-preserved : goal.loop-n-preserved
loop-n-preserved c =
    let a = c.args in
    let l = c.loop-n in
    let n = c.node-it in
    let C = contents_at a.file.now a.head in
    let D = schema_of C in
    elim c.match-tag.branch [
      | in-0+else-depth-eq0-2 w ↦
          let p = bare_point D w.user_in-user-in-0.result w.bound_with-bound-in-0.result in
          let pos : 0 < l.depth = omega arith in
          let top : queued D l.stack l.depth ≡ p ∷ queued D l.stack (l.depth - 1) =
          read_top 0 (unpaired D) l.stack l.depth pos ∙ ap (λ (q : Point). q ∷ queued D l.stack (l.depth - 1)) (ap₂ (bare_point D) (sym w.user_in-user-in-0.ensures) (sym w.bound_with-bound-in-0.ensures)) in
          let under : Waits Ownable l.bound (p ∷ queued D l.stack (l.depth - 1)) = subst (λ (ps : List Point). Waits Ownable l.bound ps) top l.invariant.7 in
          let left = scoping_tree C a.scopes.now (l.n + 1) (context_of l.names (bare_point D l.user l.bound)) _ l.scopes n.result (omega arith) (omega (arith, nodes_held a.file.now a.head, c.loop-n-test.true)) n.ensures l.invariant.8 w.from.result l.here 0 w.from.ensures l.invariant.10 (λ _. rw w.in-0.is) w.in-0.is in
          let long : length (set l.scopes w.from.result (marked l.here 0)) ≡ length l.scopes = length-set l.scopes w.from.result (marked l.here 0) in
          let popped : (l.n + 1) < length l.scopes → (get_or l.waits (l.depth - 1) 0 ≡ scope_of (context_of l.names p)) × (stacked 0 l.waits (l.depth - 1) ≡ map scope_of (map (context_of l.names) (queued D l.stack (l.depth - 1)))) =
          λ room. scope_popped l.waits l.depth (context_of l.names p) (map (context_of l.names) (queued D l.stack (l.depth - 1))) pos (l.invariant.11 room ∙ ap (λ (ps : List Point). map scope_of (map (context_of l.names) ps)) top) in rw (w.user-is, w.bound-is, w.here-is, w.depth-is, w.names-is, w.stack-is, w.waits-is, w.scopes-is) (
            l.invariant.0,
            l.invariant.1,
            omega (arith, l.invariant.2),
            omega (arith, under.0, l.invariant.3),
            under.1,
            l.invariant.5,
            held_less l.names l.bound p.bound under.0 l.invariant.6,
            under.2,
            rw w.keep.ensures (subst (λ (ps : List Point). Scoping C a.scopes.now (l.n + 1 + 1) (map (context_of l.names) ps) (set l.scopes w.from.result (marked l.here 0))) top left),
            l.invariant.9,
            (λ room. (popped (omega (arith, room, ap length w.keep.ensures, long))).0),
            (λ room. (popped (omega (arith, room, ap length w.keep.ensures, long))).1),
            ap length w.keep.ensures ∙ long ∙ l.invariant.12,
          )
      | in-1 w ↦
          let p = bare_point D l.user l.bound in
          let room : l.depth < length l.stack = omega (arith, l.invariant.2, l.invariant.0, c.loop-n-test.true, c.requires.4) in
          let beside : l.depth < length l.waits = omega (arith, l.invariant.2, l.invariant.9, c.loop-n-test.true, c.requires.5) in
          let is : unpaired D w.paired.result ≡ p = ap₂ (bare_point D) (omega (arith, w.paired.ensures)) (omega (arith, w.paired.ensures)) in
          let long : length (set l.scopes w.from-in-1.result (marked l.here 0)) ≡ length l.scopes = length-set l.scopes w.from-in-1.result (marked l.here 0) in
          let push = read_push 0 (unpaired D) l.stack l.depth w.paired.result p room is in
          let left = scoping_fork C a.scopes.now (l.n + 1) (context_of l.names p) (map (context_of l.names) (queued D l.stack l.depth)) l.scopes n.result (omega arith) (omega (arith, nodes_held a.file.now a.head, c.loop-n-test.true)) n.ensures l.invariant.8 w.from-in-1.result l.here 0 w.from-in-1.ensures l.invariant.10 (λ _. rw w.in-1.is) w.in-1.is in rw (w.user-is, w.bound-is, w.here-is, w.depth-is, w.names-is, w.stack-is, w.waits-is, w.scopes-is) (
            simp length-set l.invariant.0,
            l.invariant.1,
            omega (arith, l.invariant.2),
            omega (arith, l.invariant.3),
            l.invariant.4,
            l.invariant.5,
            l.invariant.6,
            waits_push (unpaired D) Ownable l.bound l.stack l.depth w.paired.result p room is (omega arith) l.invariant.4 l.invariant.7,
            rw w.keep-in-1.ensures (subst (λ (ps : List Point). Scoping C a.scopes.now (l.n + 1 + 1) (context_of l.names p ∷ map (context_of l.names) ps) (set l.scopes w.from-in-1.result (marked l.here 0))) (sym push) left),
            simp length-set l.invariant.9,
            (λ room. l.invariant.10 (omega (arith, room, ap length w.keep-in-1.ensures, long))),
            (λ room.
                let due : (l.n + 1) < length l.scopes = omega (arith, room, ap length w.keep-in-1.ensures, long) in
                scope_pushed l.waits l.depth l.here (context_of l.names p) (map (context_of l.names) (queued D l.stack l.depth)) beside (l.invariant.10 due) (l.invariant.11 due) ∙ ap (λ (ps : List Point). map scope_of (map (context_of l.names) ps)) (sym push)),
            ap length w.keep-in-1.ensures ∙ long ∙ l.invariant.12,
          )
      | in_default+else-step-ne0 w ↦
          let s = w.naming_at-step.result in
          let long : 512 + l.bound < length l.names = omega (arith, l.invariant.1, l.invariant.3, c.loop-n-test.true, c.name_all.ensures.0, c.requires.2) in
          let it = told_at a.file.now a.head l.names l.user l.bound n.result s c.requires.0 long l.invariant.5 l.invariant.6 w.naming_at-step.ensures (λ z. omega (arith, z)) (λ z. omega (arith, z)) (omega arith) in
          let good = w.if-step-ne0.false in
          let here = context_of l.names (bare_point D l.user l.bound) in
          let rest = map (context_of l.names) (queued D l.stack l.depth) in
          let to : 512 + w.from-in_default-2.result ≡ 512 + l.bound = ap (λ k. 512 + k) w.from-in_default-2.ensures in
          let same : l.bound ≤ l.bound = omega arith in
          let kept = contexts_kept Ownable l.names l.bound s.binding l.bound (queued D l.stack l.depth) same l.invariant.7 in
          let t = set l.names (512 + l.bound) s.binding in
          let more = context_of t (bare_point D l.user s.bound) ∷ map (context_of t) (queued D l.stack l.depth) in
          let next : map unmasked more ≡ map unmasked (waiting_after D here n.result rest) =
          ap₂ ◌∷◌ (it.child good) (ap (map unmasked) kept) ∙ ap (map unmasked) (after_step D here n.result rest (λ z. omega (arith, z)) (λ z. omega (arith, z)) refl refl) in
          let left = scoping_on C a.scopes.now (l.n + 1) here rest l.scopes n.result (omega arith) (omega (arith, nodes_held a.file.now a.head, c.loop-n-test.true)) n.ensures l.invariant.8 w.from-in_default.result l.here s.awaits w.from-in_default.ensures l.invariant.10 (kind_at_lem a.file.now a.head l.names l.user l.bound n.result s c.requires.0 long l.invariant.5 l.invariant.6 w.naming_at-step.ensures) more (sym it.wrong ∙ good) next in
          let same-room : length (set l.scopes w.from-in_default.result (marked l.here s.awaits)) ≡ length l.scopes = length-set l.scopes w.from-in_default.result (marked l.here s.awaits) in
          let child : (l.n + 1) < length l.scopes → w.scope_after-here.result ≡ scope_of (context_of t (bare_point D l.user s.bound)) =
          λ due.
          w.scope_after-here.ensures (lt-ltb w.from-in_default-3.result (length w.keep-in_default.new.scopes) (omega (arith, due, w.from-in_default-3.ensures, ap length w.keep-in_default.ensures, same-room)))
          ∙ ap (λ (w : ℕ). cond (eqb s.bound l.bound) w (bind_scope w (kind_in s.binding))) (l.invariant.10 due)
          ∙ scope_next D l.names l.user l.bound s.binding s.bound long (it.least good) (it.most good) in
          rw (w.user-is, w.bound-is, w.here-is, w.depth-is, w.names-is, w.stack-is, w.waits-is, w.scopes-is, to, w.keep-in_default.ensures) (
            l.invariant.0,
            length-set l.names (512 + l.bound) _ ∙ l.invariant.1,
            omega (arith, l.invariant.2),
            omega (arith, l.invariant.3, it.most good),
            l.invariant.4,
            named_kept D a.head.count.users a.head.count.channels l.names l.bound s.binding l.invariant.5,
            it.held good,
            waits_more Ownable l.bound s.bound (queued D l.stack l.depth) (it.least good) l.invariant.7,
            left,
            l.invariant.9,
            (λ room. child (omega (arith, room, same-room))),
            (λ room. l.invariant.11 (omega (arith, room, same-room)) ∙ ap (map scope_of) (sym kept)),
            same-room ∙ l.invariant.12,
          )
    ]

pub returns : goal.returns
returns c =
    let a = c.args in
    let l = c.loop-n in
    scoping_ends (contents_at a.file.now a.head) a.scopes.now (l.n + 1) _ l.scopes (omega (arith, nodes_held a.file.now a.head, c.loop-n-test.false)) l.invariant.8
