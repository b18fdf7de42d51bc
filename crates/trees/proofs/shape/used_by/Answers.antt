use Rattle.trees.proofs.shape.used_by.Goals as goal

pub returns-then-tag : goal.returns-then-tag
returns-then-tag c = rw c.if-tag.true

pub returns-then-tag-2 : goal.returns-then-tag-2
returns-then-tag-2 c = rw (c.if-tag.false, c.if-tag-2.true)

pub returns : goal.returns
returns c = rw (c.if-tag.false, c.if-tag-2.false)
