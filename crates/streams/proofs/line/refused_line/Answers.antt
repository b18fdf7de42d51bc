use Rattle.streams.proofs.LineLaws.{line_held}
use Rattle.streams.proofs.line.refused_line.Goals as goal

pub returns : goal.returns
returns c =
    let a = c.args in
    let t1 = c.put_text-word in
    let t2 = c.put_decimal-first in
    let t3 = c.put_text-blank in
    let t4 = c.put_decimal-second in
    let t5 = c.put_text in
    let (prefix_len, line_after) = line_held a.number a.place
    a.line.now _ _ _ _ _ _ _ _ _ _ c.requires
    t1.ensures.0 t1.ensures.1 t2.ensures.0 t2.ensures.1 t3.ensures.0 t3.ensures.1 t4.ensures.0 t4.ensures.1 t5.ensures.0 t5.ensures.1 in
    record { prefix_len = prefix_len; line_after = line_after }
