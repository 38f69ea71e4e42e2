use Rattle.std.proofs.Common.{ap, codes, ◌∙◌}
use Rattle.http.specs.Response.{head_of}
use Rattle.http_header.specs.FieldValue.{plain_value}
use Rattle.http_header.specs.HeaderMap.{insert}
use Rattle.wl_wire.proofs.greeter.select.Goals as goal

pub returns : goal.returns
returns c =
    let headers = (head_of c.args.response.now).headers in
    let name = codes "sec-websocket-protocol" in
    c.in_ok-insert.ensures.ok
    ∙ (ap (λ at. insert at c.from_static-name.result c.from_static-selected.result) c.headers_mut.ensures.value
    ∙ (ap (λ key. insert headers key c.from_static-selected.result) c.from_static-name.ensures
    ∙ ap (insert headers name) (c.from_static-selected.ensures ∙ ap plain_value c.name.ensures)))
