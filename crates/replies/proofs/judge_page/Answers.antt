-- `replies::judge_page` meets its contract. Assumes nothing.
use native.Mathlib.Omega.{arith}
use mathlib.Core.Path.{sym, ◌∙◌}
use Rattle.replies.specs.laws.JudgedLaws.{page_short, page_right, page_wrong}
use Rattle.replies.proofs.judge_page.Goals as goal

pub returns-then-reply-ne-PAGE_BYTES : goal.returns-then-reply-ne-PAGE_BYTES
returns-then-reply-ne-PAGE_BYTES c = record {
  value = λ h f g. page_short _ c.args.reply.now c.if-reply-ne-PAGE_BYTES.true;
  reply_len = tt;
}

pub returns-then-is_page : goal.returns-then-is_page
returns-then-is_page c =
    let a = c.args in record {
      value = λ h f g. page_right _ a.reply.now c.if-reply-ne-PAGE_BYTES.false (sym (c.is_page.ensures a.n h (omega arith) f g)
          ∙ c.if-is_page.true);
      reply_len = c.if-reply-ne-PAGE_BYTES.false;
    }

pub returns : goal.returns
returns c =
    let a = c.args in record {
      value = λ h f g. page_wrong _ a.reply.now c.if-reply-ne-PAGE_BYTES.false (sym (c.is_page.ensures a.n h (omega arith) f g)
          ∙ c.if-is_page.false);
      reply_len = tt;
    }
