use Rattle.std.proofs.Common.{rules}
use Rattle.opening.proofs.Accepting.{errors_low, string_is, string_small, accepted_as, message_as, refused_as}
use Rattle.opening.proofs.prepare.PreparedKey.finish.Goals as goal

pub fill_values-requires-clause-low : goal.fill_values-requires-clause-low
fill_values-requires-clause-low c =
    let q = c.requires in
    errors_low c.args.self.now.key.parameters.set _ c.args.sent.now c.args.received.now q.sent q.encoded c.list_errors.new.places c.in_ok-list_errors.ensures.places

pub unpad_elements-requires-clause-small : goal.unpad_elements-requires-clause-small
unpad_elements-requires-clause-small c =
    let q = c.requires in
    string_small c.args.self.now.key.parameters.set _ c.args.sent.now c.args.received.now q.sent q.encoded c.list_errors.new.places c.in_ok-list_errors.ensures.places
    c.copy_from_slice.new.self c.fill_values.new.values (search rules) c.fill_values.ensures (search rules) q.sent_small q.received_small

pub returns-clause-accepted : goal.returns-clause-accepted
returns-clause-accepted c =
    let q = c.requires in
    let s = c.args.self.now.key.parameters.set in
    let string = string_is s _ c.args.sent.now c.args.received.now q.sent q.encoded c.list_errors.new.places c.in_ok-list_errors.ensures.places
    c.copy_from_slice.new.self c.fill_values.new.values (search rules) c.fill_values.ensures (search rules) in
    accepted_as s _ c.args.sent.now c.args.received.now q.sent q.encoded c.list_errors.new.places c.in_ok-list_errors.ensures.places _ string (search rules) c.unpad_elements.result c.unpad_elements.ensures.checks

pub returns-clause-message : goal.returns-clause-message
returns-clause-message c =
    let q = c.requires in
    let s = c.args.self.now.key.parameters.set in
    let string = string_is s _ c.args.sent.now c.args.received.now q.sent q.encoded c.list_errors.new.places c.in_ok-list_errors.ensures.places
    c.copy_from_slice.new.self c.fill_values.new.values (search rules) c.fill_values.ensures (search rules) in
    message_as s _ c.args.sent.now c.args.received.now q.sent q.encoded c.list_errors.new.places c.in_ok-list_errors.ensures.places _ string (search rules) c.unpad_elements.result _ c.unpad_elements.ensures.message

pub returns-clause-refused : goal.returns-clause-refused
returns-clause-refused c =
    let q = c.requires in
    let s = c.args.self.now.key.parameters.set in
    let string = string_is s _ c.args.sent.now c.args.received.now q.sent q.encoded c.list_errors.new.places c.in_ok-list_errors.ensures.places
    c.copy_from_slice.new.self c.fill_values.new.values (search rules) c.fill_values.ensures (search rules) in
    refused_as s _ c.args.sent.now c.args.received.now q.sent q.encoded c.list_errors.new.places c.in_ok-list_errors.ensures.places _ string (search rules) c.unpad_elements.result c.unpad_elements.ensures.wrong
