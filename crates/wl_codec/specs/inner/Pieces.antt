-- Texts of parts of a reply that are no JSON value of their own, for private clauses (own).
use Rattle.std.specs.Prelude.{ℕ, List, ◌++◌, codes}
use Rattle.serde_json.specs.Written.{compact_text}
use Rattle.wl_codec.specs.Replies.{whole_value, notices_value}
use Rattle.wl_codec.specs.declared.reply.WireReply.{WireReply}

-- the members `id` and `notices`
abbrev pub id_and_notices : WireReply → List ℕ
id_and_notices r = codes "\"id\":" ++ (compact_text (whole_value r.id)
    ++ (codes ",\"notices\":" ++ compact_text (notices_value r.notices)))
