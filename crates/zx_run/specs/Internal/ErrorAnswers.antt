-- The answers to the errors of those who read.
use Rattle.zx_io.specs.declared.errors.ReadError.{ReadError}
use Rattle.zx_io.specs.declared.errors.ReadError.TheVariants as read
use Rattle.qasm_inline.specs.declared.error.TextError.{TextError}
use Rattle.qasm_inline.specs.declared.error.TextError.TheVariants as error
use Rattle.zx_text.specs.declared.error.TextError as file
use Rattle.zx_text.specs.declared.error.TextError.TheVariants as file_error
use Rattle.zx_run.specs.declared.status.Fault.TheVariants.{TooLong, BadByte, TooDeep, Syntax, BadLine}
use Rattle.zx_run.specs.declared.status.Status.{Status}
use Rattle.zx_run.specs.declared.status.Status.TheVariants.{Refused, ReadFault, NoMemory}
use Rattle.zx_run.specs.FirstFault.{fault_of}

-- not all bytes were read
abbrev pub answer_to_read_error : ReadError → Status
answer_to_read_error read.ReadFault = ReadFault
answer_to_read_error read.TooLong = Refused TooLong
answer_to_read_error read.NoMemory = NoMemory

-- the text was refused, or memory ran out
abbrev pub answer_to_text_error : TextError → Status
answer_to_text_error (error.BadByte at) = Refused (BadByte at)
answer_to_text_error (error.TooDeep at) = Refused (TooDeep at)
answer_to_text_error (error.Syntax at) = Refused (Syntax at)
answer_to_text_error (error.Wrong cause at) = Refused (fault_of cause at)
answer_to_text_error error.NoMemory = NoMemory

-- the file was refused, or memory ran out
abbrev pub answer_to_file_error : file.TextError → Status
answer_to_file_error (file_error.BadLine line) = Refused (BadLine line)
answer_to_file_error file_error.TooLong = Refused TooLong
answer_to_file_error file_error.NoMemory = NoMemory
