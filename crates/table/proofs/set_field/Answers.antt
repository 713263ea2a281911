use Rattle.layout.proofs.WordLaws.{put_lt}
use Rattle.table.proofs.PairLaws.{size_of, code_put}
use borrow.Author.Rules.{rules}
use Rattle.table.proofs.set_field.Goals as goal

pub overflow_add-y : goal.overflow_add-y
overflow_add-y c =
    let a = c.args in
    let h = rw (size_of a.w c.requires.1) at c.if-size-v.false in
    record {
      fits = rw (code_put a.p a.w c.word-x.result a.v c.requires.1 c.requires.2 h)
          (put_lt 64 a.p a.w c.word-x.result a.v c.requires.2 (search rules) h);
    }
